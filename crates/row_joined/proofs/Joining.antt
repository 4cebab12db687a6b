-- From the index to the index that a row has joined: the leaf is found, its run is laid, and the tree is written anew with it. Assumes nothing.
use Prim.Native.Nat.{◌*◌, ◌+◌, ◌<◌, ◌≤◌, ℕ}
use Rattle.appending.specs.Append.{appended}
use Rattle.laws.specs.Lists.{times}
use Rattle.laying.proofs.Handing.{ready-long, ready-rows}
use Rattle.laying.specs.Lay.{Laying, Lays, ready}
use Rattle.leafward.specs.Way.{LeafFound, NewRow}
use Rattle.limits.specs.Limits.{max_rows}
use Rattle.measure.specs.Table.{between}
use Rattle.refill.proofs.Linking.{leaf-under, limit_of, regrown-appended, run-once}
use Rattle.refill.specs.Calls.{Refilled, regrown_words}
use Rattle.regrow.specs.Calls.{Regrowable, regrown_of}
use Rattle.rounds.specs.Stretch.{stretch}
use Rattle.row_joined.specs.Joining.{Joinable, Joins}
use Rattle.split.specs.Runs.{laid}
use Rattle.tree.specs.Encode.{encode, numbered}
use Rattle.tree.specs.Grove.{Grove}
use Rattle.words.specs.Words.{nodes#, c#, circles#, count#, l#, m#, n#, start#}
use lib.ListN.{drop, length, replicate}
use mathlib.Core.Bool.{Bool, cond}
use mathlib.Core.List.{List, ◌++◌}
use mathlib.Core.Path.{◌∙◌, ◌≡◌, ap, refl, subst, sym}
use native.Mathlib.Nat.{mul-add}
use native.Mathlib.Omega.{arith}

-- the nodes of an index are those of its tree
nodes_are : (c o m l : ℕ) (g : Grove) → length (numbered g) ≡ nodes# (encode 2 c o m l g)
unfolding encode
nodes_are c o m l g = refl

-- z is the new row
module _ {t : List ℕ} {c : ℕ} {w room work : List ℕ} (J : Joinable t c w room work) {z : ℕ} (new : z ≡ n# w) where
  -- the table's rows, told by the product
  table-long : c * n# w + c ≤ length t
  table-long = omega (arith, J.table, mul-add c (n# w) 1)

  -- the leaf can be looked for
  pub lent : NewRow t c w z
  lent =
      record {
        shape = J.shape;
        columns = J.columns;
        table = omega (arith, table-long);
        new = subst (λ (i : ℕ). c * i + c ≤ length t) (sym new) table-long;
      }

  -- there is a root
  pub rooted : 1 ≤ nodes# w
  rooted = J.shape.whole.rooted J.some

  -- its run can be laid
  pub laying : {v : ℕ} → v < nodes# w → Laying t c w z v work
  laying h =
      record {
        space = record { shape = J.shape; there = h; halves = omega (arith, J.halves) };
        lent = lent;
        small = omega (arith, J.few);
      }

  -- the leaf is found
  module _ {v left : ℕ} (F : LeafFound (between t c (circles# w)) w z v left) where
    -- the run that is laid
    abbrev pub run : List ℕ
    run = ready w v left (n# w)

    -- it has one row more than the leaf
    pub run_long : length run ≡ count# w v + 1
    run_long = ready-long w J.shape (n# w) v left F.there

    -- its run is laid, and `limit` is taken from whether it is not split: the tree can be grown anew
    module _ {limit : ℕ} {stays : Bool} {work₁ : List ℕ} (L : Lays t c w v left z work work₁ stays) (q : limit ≡ cond stays max_rows (l# w)) where
      -- the limit is that of the leaf
      pub limit_is : limit ≡ limit_of w v left (n# w)
      limit_is = q ∙ ap (λ (b : Bool). cond b max_rows (l# w)) L.said ∙ ap (λ (i : ℕ). limit_of w v left i) new

      -- the run stands
      pub stands-there : stretch work₁ (3 * start# w v) (3 * start# w v + 3 * length run) ≡ laid (between t (c# w) (circles# w)) run
      stands-there =
          ap (λ (i : ℕ). stretch work₁ (3 * start# w v) (3 * start# w v + 3 * i)) run_long ∙ L.run
          ∙ ap (λ (i : ℕ). laid (between t c (circles# w)) (ready w v left i)) new
          ∙ ap (λ (i : ℕ). laid (between t i (circles# w)) run) (sym J.columns)

      unfoldable pub regrowable : Regrowable t w v 1 limit room work₁
      regrowable =
          record {
            change = record {
              shape = J.shape;
              edition = J.edition;
              there = F.there;
              leafy = subst (λ (i : ℕ). l# w ≤ i) (sym limit_is) (leaf-under t w J.shape v left F.there J.few);
              rows = J.few;
              table = subst (λ (i : ℕ). i * (n# w + 1) ≤ length t) (sym J.columns) J.table;
            };
            tree = J.tree;
            run = run;
            count = run_long;
            once = subst (λ (i : ℕ). i < length run → (r : ℕ) → times r run ≤ 1) (sym limit_is) (run-once t w J.shape v left F.there J.few);
            rows = ready-rows w J.shape (n# w) v left F.there refl;
            stands = stands-there;
            halves = omega (arith, J.halves, L.long);
            space = J.space;
          }

      -- the words that are written are those of the index with the row in it
      words_are : regrown_words t w v 1 limit run ≡ appended t c w
      words_are =
          ap (λ (i : ℕ). regrown_words t w v 1 i run) limit_is
          ∙ regrown-appended t w J.shape v left F.there J.few J.some
          (subst (λ (i : ℕ). LeafFound (between t i (circles# w)) w (n# w) v left) (sym J.columns)
          (subst (λ (i : ℕ). LeafFound (between t c (circles# w)) w i v left) new F))
          ∙ ap (λ (i : ℕ). appended t i w) J.columns

      -- THE ROW HAS JOINED
      pub joins : {made : ℕ} {room' work₂ work' : List ℕ} → Refilled t w v 1 limit regrowable.run room work₁ room' work₂ made → work' ≡ replicate (length work₂) 0
          → Joins t c w room work room' work' made
      unfolding regrowable
      joins {made} {work₂ = work₂} R zeros =
          record {
            index = R.index ∙ ap (λ (x : List ℕ). x ++ drop (length x) room) words_are;
            count = R.count ∙ nodes_are (c# w) (circles# w) (m# w) (l# w) (regrown_of t w v 1 limit run) ∙ ap nodes# words_are;
            few = omega (arith, R.few);
            long = ap length (sym words_are) ∙ R.words;
            cleared = zeros ∙ ap (λ (i : ℕ). replicate i 0) (R.long ∙ L.long);
          }
