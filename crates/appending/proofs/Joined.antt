-- A well-made tree that takes one row more is well made. Assumes nothing.
use Prim.Native.Nat.{◌+◌, ◌<◌, ◌≤◌, suc, zero, ℕ}
use Rattle.appending.proofs.Further.{small_more, spans-more, spans-reaches}
use Rattle.appending.proofs.Lodge.{laid, laid-head, laid-tally, lodge-is}
use Rattle.appending.proofs.Lowest.{get_d_mapped, lowest-least, lowest_there, times_more, times_none}
use Rattle.appending.proofs.Nodes.{Made, Once, good_made, made-after-fork, made-after-leaf, made-kids, once_after_fork, once_after_leaf, once_kids}
use Rattle.appending.specs.Append.{join, lodge, lowest_at, reach_with}
use Rattle.laws.proofs.Every.{every_append, every-left, every_of, every-right, every-unmap}
use Rattle.laws.proofs.Lists.{tally_length}
use Rattle.laws.proofs.Shares.{bit}
use Rattle.laws.proofs.Times.{every_same, lefts, tally_lefts}
use Rattle.laws.specs.Every.{Every}
use Rattle.laws.specs.Lists.{head, tally, times}
use Rattle.limits.specs.Limits.{max_depth, max_distance}
use Rattle.measure.specs.Space.{Space}
use Rattle.tree.proofs.Built.{grown-dists}
use Rattle.tree.proofs.Full.{first-row}
use Rattle.tree.proofs.Good.{Good}
use Rattle.tree.proofs.Grow.{grown-even, grown-fine, grown-full, grown-tally}
use Rattle.tree.proofs.Grown.{Spans, grown-close, grown-firsts, grown-sound}
use Rattle.tree.proofs.Sound.{Close}
use Rattle.tree.specs.Build.{Run, grow}
use Rattle.tree.specs.Encode.{span}
use Rattle.tree.specs.Grove.{Grove, Reach, bare, entries, first, firsts, fork, leaf, rows_in}
use borrow.Author.Tests.{eqb-true}
use lib.Dec.{eqb}
use lib.ListN.{get_or, length, length-map}
use mathlib.Core.Bool.{Bool, false, true}
use mathlib.Core.List.{List, [], ◌++◌, ◌∷◌, map}
use mathlib.Core.Path.{◌∙◌, ◌≡◌, ap, refl, subst, sym}
use native.Mathlib.Nat.{not-suc-le-zero}
use native.Mathlib.Omega.{arith}

module _ (d : ℕ → ℕ → ℕ) (S : Space d) (D : (i j : ℕ) → d i j ≤ max_distance) (m l : ℕ) (m1 : 1 ≤ m) (ml : m ≤ l) (z : ℕ) where
  -- what becomes of the nodes g where that at the place k takes the new row: their firsts stay, their rows are those and the new one, they are well
  -- made, and rows that were as close to their node's first as to any of some centres still are, where the new one is
  pub record Joined (deep k : ℕ) (g g' : Grove) : Type 0 where
    pub centres : firsts g' ≡ firsts g
    pub rows : (f : ℕ → Bool) → tally f (rows_in g') ≡ tally f (rows_in g) + bit (f z)
    pub made : Made d m l deep g'
    pub near : (cs : List ℕ) → Every (λ c. d (get_or (firsts g) k 0) z ≤ d c z) cs → Close d cs g → Close d cs g'

  -- rows with one more: how often each stands there
  same_more : (is js : List ℕ) → ((f : ℕ → Bool) → tally f js ≡ tally f is + bit (f z)) → (i : ℕ) → times i js ≡ times i (is ++ z ∷ [])
  same_more is js e i = e (eqb i) ∙ sym (times_more i z is)

  -- what holds of the rows and of the new one holds of all
  every_more : (P : ℕ → Type 0) (is js : List ℕ) → ((f : ℕ → Bool) → tally f js ≡ tally f is + bit (f z)) → Every P is → P z → Every P js
  every_more P is js e h p = every_same P (is ++ z ∷ []) js (same_more is js e) (every_append P is (z ∷ []) h (p, tt))

  -- how many there are
  more-length : (is js : List ℕ) → ((f : ℕ → Bool) → tally f js ≡ tally f is + bit (f z)) → length js ≡ length is + 1
  more-length is js e = sym (tally_length js) ∙ e (λ i. true) ∙ ap (λ (n : ℕ). n + 1) (tally_length is)

  -- ---- the leaf that takes the row
  -- grown over a run with its first, its rows and the new one
  leaf-grown : (deep : ℕ) (R : Reach) (es : List (ℕ × ℕ)) (g : Grove) (run : List ℕ) → Made d m l deep (leaf R es g) → Once z (leaf R es g)
      → head run ≡ head (lefts es) → ((f : ℕ → Bool) → tally f run ≡ tally f (lefts es) + bit (f z))
      → Joined deep 0 (leaf R es g) (grow d m l deep run g)
  leaf-grown deep R es g run M F hd rs =
      let r : Run run = (
        omega (arith, more-length (lefts es) run rs),
        λ i. omega (arith, rs (eqb i), F i, tally_lefts (eqb i) es (entries g)),
      ) in
      let st = grown-sound d S.self m l m1 ml deep run g r (M.sound.2, M.tight.1) in
      record {
        centres = grown-firsts d S.self m l m1 ml deep run g ∙ ap (λ (i : ℕ). i ∷ firsts g) hd;
        rows = λ f. omega (arith, grown-tally d m l m1 ml deep f run g r, rs f, tally_lefts f es (entries g));
        made = record {
          full = grown-full d m l m1 ml deep run g r M.full.1;
          even = grown-even d m l m1 ml deep run g M.even;
          fine = grown-fine d m l m1 ml D deep run g r M.fine.3;
          sound = st.0;
          tight = st.1;
          dists = grown-dists d S D m l m1 ml deep run g (every-right (λ e. e.1 ≤ max_distance) es (entries g) M.dists);
        };
        near = λ cs h c. grown-close d S.self m l m1 ml cs deep run g r
            (subst (λ (f : ℕ). Every (λ i. Every (λ c. d f i ≤ d c i) cs) run) (sym hd)
            (every_more (λ i. Every (λ c. d (head (lefts es)) i ≤ d c i) cs) (lefts es) run rs c.0 h)) c.1;
      }

  -- so it is
  join-leaf : (deep : ℕ) (R : Reach) (es : List (ℕ × ℕ)) (g : Grove) → Made d m l deep (leaf R es g) → Once z (leaf R es g)
      → Joined deep 0 (leaf R es g) (lodge d m l z deep R es g)
  join-leaf deep R es g M F =
      subst (Joined deep 0 (leaf R es g)) (sym (lodge-is d m l z M F)) (leaf-grown deep R es g (laid d m l z deep es) M F
      (laid-head d m l z deep es (omega (arith, length-map es (λ e. e.0), M.full.0))) (laid-tally d m l z deep es))

  -- ---- a node before the one that takes it
  -- a leaf
  after-leaf : (deep k : ℕ) (R : Reach) (es : List (ℕ × ℕ)) (g g' : Grove) → Made d m l deep (leaf R es g) → Joined deep k g g'
      → Joined deep (suc k) (leaf R es g) (leaf R es g')
  after-leaf deep k R es g g' M J =
      let N = J.made in
      record {
        centres = ap (λ (is : List ℕ). head (lefts es) ∷ is) J.centres;
        rows = λ f. omega (arith, J.rows f, tally_lefts f es (entries g), tally_lefts f es (entries g'));
        made = record {
          full = (M.full.0, N.full);
          even = N.even;
          fine = (M.fine.0, M.fine.1, M.fine.2, N.fine);
          sound = (M.sound.0, M.sound.1, N.sound);
          tight = (M.tight.0, N.tight);
          dists = every_append (λ e. e.1 ≤ max_distance) es (entries g') (every-left (λ e. e.1 ≤ max_distance) es (entries g) M.dists) N.dists;
        };
        near = λ cs h c. (c.0, J.near cs h c.1);
      }

  -- an inner node
  after-fork : (deep k : ℕ) (R : Reach) (ks g g' : Grove) → Made d m l (suc deep) (fork R ks g) → Joined (suc deep) k g g'
      → Joined (suc deep) (suc k) (fork R ks g) (fork R ks g')
  after-fork deep k R ks g g' M J =
      let N = J.made in
      record {
        centres = ap (λ (is : List ℕ). first ks ∷ is) J.centres;
        rows = λ f. omega (arith, J.rows f, tally_lefts f (entries ks) (entries g), tally_lefts f (entries ks) (entries g'));
        made = record {
          full = (M.full.0, M.full.1, N.full);
          even = (M.even.0, M.even.1, N.even);
          fine = (M.fine.0, M.fine.1, M.fine.2, N.fine);
          sound = (M.sound.0, M.sound.1, M.sound.2, N.sound);
          tight = (M.tight.0, M.tight.1, N.tight);
          dists = every_append (λ e. e.1 ≤ max_distance) (entries ks) (entries g')
              (every-left (λ e. e.1 ≤ max_distance) (entries ks) (entries g) M.dists) N.dists;
        };
        near = λ cs h c. (c.0, J.near cs h c.1);
      }

  -- ---- the inner node that takes it, where the child with the closest centre does
  into-fork : (deep k : ℕ) (R : Reach) (ks ks' g : Grove) → Made d m l (suc deep) (fork R ks g)
      → Every (λ c. d (get_or (firsts ks) k 0) z ≤ d c z) (firsts ks) → Joined deep k ks ks'
      → Joined (suc deep) 0 (fork R ks g) (fork (reach_with (length (entries ks)) R (d (first ks) z)) ks' g)
  into-fork deep k R ks ks' g M least J =
      let N = J.made in
      let f : ℕ = first ks in
      let R' : Reach = reach_with (length (entries ks)) R (d f z) in
      let same : first ks ≡ first ks' = ap head (sym J.centres) in
      let full' : 1 ≤ length (firsts ks') = subst (λ (is : List ℕ). 1 ≤ length is) (sym J.centres) M.full.0 in
      let old = first-row ks M.full.1 M.full.0 in
      let new = first-row ks' N.full full' in
      let rows : length (rows_in ks) ≡ length (entries ks) = length-map (entries ks) (λ e. e.0) in
      let len : length (entries ks') ≡ length (entries ks) + 1 =
      sym (length-map (entries ks') (λ e. e.0)) ∙ more-length (rows_in ks) (rows_in ks') J.rows ∙ ap (λ (n : ℕ). n + 1) rows in
      let exact : Spans d R' (first ks') (rows_in ks') =
      subst (λ (i : ℕ). Spans d R' i (rows_in ks')) same
      (subst (λ (n : ℕ). Spans d (reach_with n R (d f z)) f (rows_in ks')) rows
      (spans-more d R f z (rows_in ks) (rows_in ks') old.0 new.0 (new.1 ∙ sym same ∙ sym old.1) (same_more (rows_in ks) (rows_in ks') J.rows)
      M.tight.0)) in
      record {
        centres = ap (λ (is : List ℕ). head is ∷ firsts g) J.centres;
        rows = λ f. omega (arith, J.rows f, tally_lefts f (entries ks) (entries g), tally_lefts f (entries ks') (entries g));
        made = record {
          full = (full', N.full, M.full.2);
          even = (ap length J.centres ∙ M.even.0, N.even, M.even.2);
          fine = (omega (arith, M.fine.0), small_more (length (entries ks)) R (d f z) M.fine.1 (D f z), N.fine, M.fine.3);
          sound = (
            subst (λ (cs : List ℕ). Close d cs ks') (sym J.centres) (J.near (firsts ks) least M.sound.0),
            spans-reaches d R' (first ks') (rows_in ks') exact,
            N.sound,
            M.sound.3,
          );
          tight = (exact, N.tight, M.tight.2);
          dists = every_append (λ e. e.1 ≤ max_distance) (entries ks') (entries g) N.dists
              (every-right (λ e. e.1 ≤ max_distance) (entries ks) (entries g) M.dists);
        };
        near = λ cs h c. (
          subst (λ (i : ℕ). Every (λ j. Every (λ c. d i j ≤ d c j) cs) (rows_in ks')) same
              (every_more (λ j. Every (λ c. d f j ≤ d c j) cs) (rows_in ks) (rows_in ks') J.rows c.0 h),
          c.1,
        );
      }

  -- the closest centre: none is closer to the new row
  closest-centre : (fs : List ℕ) → 1 ≤ length fs
      → (lowest_at (map (λ f. d f z) fs) < length fs) × Every (λ c. d (get_or fs (lowest_at (map (λ f. d f z) fs)) 0) z ≤ d c z) fs
  closest-centre fs h =
      let xs : List ℕ = map (λ f. d f z) fs in
      let k : ℕ = lowest_at xs in
      let n : length xs ≡ length fs = length-map fs (λ f. d f z) in
      let there : k < length fs = omega (arith, lowest_there xs (omega arith)) in (
        there,
        subst (λ (v : ℕ). Every (λ c. v ≤ d c z) fs) (get_d_mapped (λ f. d f z) fs k there)
            (every-unmap (λ v. get_or xs k 0 ≤ v) (λ f. d f z) fs (lowest-least xs)),
      )

  -- NODES SIDE BY SIDE, OF WHICH ONE TAKES THE ROW
  pub join-made : (deep k : ℕ) (g : Grove) → Made d m l deep g → Once z g → k < span g → Joined deep k g (join d m l z deep k g)
  unfolding join
  join-made deep k bare M F h = absurd (not-suc-le-zero h)
  join-made deep zero (leaf R es g) M F h = join-leaf deep R es g M F
  join-made deep (suc k) (leaf R es g) M F h =
      after-leaf deep k R es g (join d m l z deep k g) M (join-made deep k g (made-after-leaf M) (once_after_leaf z R es g F) (omega arith))
  join-made zero zero (fork R ks g) M F h = absurd M.fine
  join-made (suc deep) zero (fork R ks g) M F h =
      let q = closest-centre (firsts ks) M.full.0 in
      let k : ℕ = lowest_at (map (λ f. d f z) (firsts ks)) in
      into-fork deep k R ks (join d m l z deep k ks) g M q.1 (join-made deep k ks (made-kids M) (once_kids z R ks g F) q.0)
  join-made zero (suc k) (fork R ks g) M F h = absurd M.fine
  join-made (suc deep) (suc k) (fork R ks g) M F h =
      after-fork deep k R ks g (join d m l z (suc deep) k g) M
      (join-made (suc deep) k g (made-after-fork M) (once_after_fork z R ks g F) (omega arith))

-- a row number that the tree does not have, counted with its rows
pub fresh_in : (z : ℕ) (is : List ℕ) → Every (λ i. i < z) is → ((i : ℕ) → times i is ≤ 1) → (i : ℕ) → times i is + bit (eqb i z) ≤ 1
fresh_in z is low once i = go (eqb i z) refl
  where
    go : (b : Bool) → eqb i z ≡ b → times i is + bit b ≤ 1
    go true e = omega (arith, times_none z is low, ap (λ (k : ℕ). times k is) (eqb-true i z e))
    go false e = omega (arith, once i)

-- what becomes of a tree that takes one row more
pub record Appended (d : ℕ → ℕ → ℕ) (m l : ℕ) (t t' : Grove) : Type 0 where
  pub good : Good d m l t'
  pub count : length (entries t') ≡ length (entries t) + 1
  pub rows : (f : ℕ → Bool) → tally f (rows_in t') ≡ tally f (rows_in t) + bit (f (length (entries t)))
  pub centre : firsts t' ≡ firsts t

-- A WELL-MADE TREE THAT TAKES THE NEXT ROW IS WELL MADE, AND HAS ALL ROWS
pub join_good : (d : ℕ → ℕ → ℕ) → Space d → ((i j : ℕ) → d i j ≤ max_distance) → (m l : ℕ) → 1 ≤ m → m ≤ l → (t : Grove) → Good d m l t
    → Appended d m l t (join d m l (length (entries t)) max_depth 0 t)
join_good d S D m l m1 ml t G =
    let z : ℕ = length (entries t) in
    let t' : Grove = join d m l z max_depth 0 t in
    let fr = fresh_in z (rows_in t) G.rows G.once in
    let J = join-made d S D m l m1 ml z max_depth 0 t (good_made G) fr (omega (arith, G.one)) in
    let N = J.made in
    let len : length (entries t') ≡ z + 1 =
    sym (length-map (entries t') (λ e. e.0)) ∙ more-length d S D m l m1 ml z (rows_in t) (rows_in t') J.rows
    ∙ ap (λ (n : ℕ). n + 1) (length-map (entries t) (λ e. e.0)) in
    record {
      good = record {
        one = ap length J.centres ∙ G.one;
        full = N.full;
        even = N.even;
        fine = N.fine;
        sound = N.sound;
        tight = N.tight;
        rows = every_more d S D m l m1 ml z (λ i. i < length (entries t')) (rows_in t) (rows_in t') J.rows
            (every_of (λ i. i < z) (λ i. i < length (entries t')) (λ i h. omega arith) (rows_in t) G.rows) (omega arith);
        once = λ i. omega (arith, J.rows (eqb i), fr i);
        dists = N.dists;
      };
      count = len;
      rows = J.rows;
      centre = J.centres;
    }
