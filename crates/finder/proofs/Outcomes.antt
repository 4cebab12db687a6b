-- The calls' outcomes: a build that is refused, queries that are not right, and searches. Assumes nothing.
use Prim.Native.Nat.{◌*◌, ◌≤◌, min, ℕ}
use Rattle.buffers.specs.Wiped.{wiped}
use Rattle.build.proofs.Theorems.{build-headed}
use Rattle.build.specs.Calls.{Builds}
use Rattle.finder.specs.Calls.{Finds, Near, centres, leaf_rows}
use Rattle.joined_marks.specs.Firsts.{first_of}
use Rattle.limits.proofs.Numbers.{Sized}
use Rattle.measure.specs.Table.{off_circle_lem, rows_of}
use Rattle.nearest.specs.Calls.{Answered}
use Rattle.nearest_steps.specs.Asked.{asks, lends}
use Rattle.query_refusals.proofs.Why.{asked_well}
use Rattle.query_refusals.specs.Numbers.{said_of}
use Rattle.rowset.specs.Sets.{set_bad_lem}
use Rattle.several_queries.specs.Searched.{Asked, Fit, mark_of}
use Rattle.words.proofs.InShape.{in_shape}
use Rattle.words.specs.Words.{n#}
use lib.ListN.{drop, length, length-append, length-drop, length-replicate, replicate, take}
use lib.Seq.{drop_at}
use mathlib.Core.List.{List, ◌++◌}
use mathlib.Core.Path.{◌∙◌, ◌≡◌, ap, refl, subst, sym}
use native.Mathlib.Omega.{arith}

-- ---- a wiped buffer
-- what is behind is as it was
wiped-behind : (n : ℕ) (xs : List ℕ) → drop n (wiped n xs) ≡ drop n xs
wiped-behind n xs = drop_at (replicate n 0) (drop n xs) n (length-replicate n 0)

-- wiped again it is the same
wiped-again : (n : ℕ) (xs : List ℕ) → wiped n xs ≡ wiped n (wiped n xs)
wiped-again n xs = ap (λ (x : List ℕ). replicate n 0 ++ x) (sym (wiped-behind n xs))

-- and as long as before
wiped_long : (n : ℕ) (xs : List ℕ) → n ≤ length xs → length (wiped n xs) ≡ length xs
wiped_long n xs h = length-append (replicate n 0) (drop n xs) ∙ omega (arith, length-replicate {A = ℕ} n 0, length-drop n xs)

-- a table that was built over is right
pub built_sized : {t : List ℕ} {c o : ℕ} {room work room' work' : List ℕ} {made words nodes : ℕ}
    → Builds t c o 2 centres leaf_rows room work room' work' made words nodes → made ≡ 0 → Sized (length t) c
built_sized {t} {c} {o} {room} {work} b z = (build-headed t c o 2 centres leaf_rows room work b z).0

-- ---- marking
-- what the searches are lent
pub near_fit : {t : List ℕ} {c o : ℕ} {qs room work how : List ℕ} (s marks : List ℕ) {room' work' marks₁ : List ℕ} {made words nodes why : ℕ}
    → Builds t c o 2 centres leaf_rows room work room' work' made words nodes → made ≡ 0
    → why ≡ said_of t c o qs s (length how) (length marks) → why ≡ 0 → marks₁ ≡ wiped (rows_of t c) marks
    → Fit (take words room') t c qs how marks₁
near_fit {t} {c} {o} {qs} {room} {work} {how} s marks {room'} {work'} {marks₁} {made} {words} b z said y e =
    let h = build-headed t c o 2 centres leaf_rows room work b z in
    let a = asked_well (rows_of t c) c (length qs) (length how) (length marks) (off_circle_lem c o qs) (set_bad_lem s (rows_of t c)) (sym said ∙ y) in
    let w : n# (take words room') ≡ rows_of t c = h.1 in
    record {
      tested =
          record {
            shape = in_shape (take words room') (b.accepted z).words (b.accepted z).shape;
            edition = h.4;
            table = omega (arith, ap (λ (x : ℕ). c * x) w, h.0.inside);
            columns = h.0.few;
          };
      some = h.0.some;
      queries = a.3;
      bytes = omega (arith, a.0);
      room = omega (arith, a.1, ap length e, wiped_long (rows_of t c) marks a.1);
      zeros = subst (λ (n : ℕ). marks₁ ≡ wiped n marks₁) (sym w) (e ∙ wiped-again (rows_of t c) marks ∙ ap (wiped (rows_of t c)) (sym e));
    }

module _ {t : List ℕ} {c o : ℕ} {qs : List ℕ} {r : ℕ} {s room work how marks room' work' : List ℕ} {made words nodes : ℕ}
    (b : Builds t c o 2 centres leaf_rows room work room' work' made words nodes) where
  -- the build was refused
  pub near-unbuilt : {number in# met : ℕ} → (made ≡ 0 → ⊥) → (number ≡ made) × (in# ≡ 0) × (met ≡ 0)
      → Near t c o qs r s room room' work work' how how marks marks number in# met
  near-unbuilt k e =
      record {
        made = made;
        words = words;
        nodes = nodes;
        built = b;
        unbuilt = λ n. e.0;
        said = λ z. absurd (k z);
        refused = λ n. (e.1, e.2, refl, refl);
        asked = λ z. absurd (k (sym e.0 ∙ z));
      }

  module _ (z : made ≡ 0) where
    module _ {why : ℕ} (told : why ≡ said_of t c o qs s (length how) (length marks)) where
      -- rooms too short, or queries that are not right
      pub near-refused : {number in# met : ℕ} → (why ≡ 0 → ⊥) → (number ≡ why) × (in# ≡ 0) × (met ≡ 0)
          → Near t c o qs r s room room' work work' how how marks marks number in# met
      near-refused k e =
          record {
            made = made;
            words = words;
            nodes = nodes;
            built = b;
            unbuilt = λ n. absurd (n z);
            said = λ y. e.0 ∙ told;
            refused = λ n. (e.1, e.2, refl, refl);
            asked = λ y. absurd (k (sym e.0 ∙ y));
          }

      module _ (y : why ≡ 0) where
        -- every query was searched for
        pub near-asked : {how' marks₁ marks' : List ℕ} {number in# met : ℕ} → marks₁ ≡ wiped (rows_of t c) marks
            → (number ≡ 0) × Asked t c (take words room') qs r s (rows_of qs c) how how' marks₁ marks' in# met
            → Near t c o qs r s room room' work work' how how' marks marks' number in# met
        near-asked {marks₁ = marks₁} e f =
            let w : n# (take words room') ≡ rows_of t c = (build-headed t c o 2 centres leaf_rows room work b z).1 in
            let d : drop (n# (take words room')) marks₁ ≡ drop (n# (take words room')) marks
            = ap (drop (n# (take words room'))) (e ∙ ap (λ (n : ℕ). wiped n marks) (sym w)) ∙ wiped-behind (n# (take words room')) marks in
            record {
              made = made;
              words = words;
              nodes = nodes;
              built = b;
              unbuilt = λ n. absurd (n z);
              said = λ x. f.0 ∙ sym y ∙ told;
              refused = λ n. absurd (n f.0);
              asked = λ x.
                  record {
                    bytes = f.1.bytes;
                    marked = f.1.marked ∙ ap (λ (x : List ℕ). first_of (mark_of t c (take words room') qs r s (rows_of qs c)) (n# (take words room')) ++ x) d;
                    inside = f.1.inside;
                    measures = f.1.measures;
                  };
            }

-- ---- finding
module _ {t : List ℕ} {c o : ℕ} {q : List ℕ} {w : ℕ} {s room work how rs ds room' cleared : List ℕ} {made words nodes : ℕ}
    (b : Builds t c o 2 centres leaf_rows room work room' cleared made words nodes) {number given met : ℕ} where
  -- the build was refused
  pub finds-unbuilt : (made ≡ 0 → ⊥) → (number ≡ made) × (given ≡ 0) × (met ≡ 0)
      → Finds t c o q w s room room' work cleared how how rs rs ds ds number given met
  finds-unbuilt k e =
      record {
        made = made;
        words = words;
        nodes = nodes;
        cleared = cleared;
        built = b;
        refused = λ n. (e.0, e.1, e.2, refl, refl, refl, refl);
        answered = λ z. absurd (k z);
      }

  -- what it wrote was searched
  pub finds-answered : {work' how' rs' ds' : List ℕ} → made ≡ 0
      → Answered (asks t c (take words room') q w s) (min (length rs) (length ds)) (lends rs ds how cleared) (lends rs' ds' how' work') number given met
      → Finds t c o q w s room room' work work' how how' rs rs' ds ds' number given met
  finds-answered z told =
      record {
        made = made;
        words = words;
        nodes = nodes;
        cleared = cleared;
        built = b;
        refused = λ n. absurd (n z);
        answered = λ y. told;
      }
