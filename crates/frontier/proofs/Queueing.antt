-- Queueing the rows of a leaf and the children of an inner node, one by one. Assumes nothing.
use Prim.Native.Nat.{◌*◌, ◌+◌, ◌-◌, ◌<◌, ◌≤◌, max, suc, ℕ}
use Rattle.frontier.proofs.Beyond.{more_none, more_one}
use Rattle.frontier.specs.Waiting.{FrontierRoom, More, noded, placed}
use Rattle.frontier.specs.Workspace.{kept}
use Rattle.laws.specs.Lists.{gap}
use Rattle.limits.specs.Limits.{max_rows}
use Rattle.queue.specs.Entry.{packed}
use Rattle.queue.specs.Queue.{Queue}
use Rattle.tree.specs.Grove.{reach#}
use Rattle.tree.specs.Homes.{child_bound_lem}
use Rattle.words.specs.InShape.{InShape, Whole}
use Rattle.words.specs.Words.{nodes#, count#, dist#, first#, n#, pair_at, start#}
use lib.ListN.{get_or, length}
use mathlib.Core.List.{List}
use mathlib.Core.Path.{◌∙◌, ◌≡◌, ap, ap₂, subst, sym}
use native.Mathlib.Omega.{arith}

-- ---- room
-- there is room for fewer
pub room_less : (w work : List ℕ) (n len k k' : ℕ) → FrontierRoom w work n len k → k' ≤ k → FrontierRoom w work n len k'
room_less w work n len k k' R h =
    record { shape = R.shape; edition = R.edition; rows = R.rows; queue = R.queue; fits = omega (arith, R.fits); words = R.words }

-- there is room for k, the number of rows being told as the code holds it
pub room_at : (w work : List ℕ) (n len k : ℕ) → n ≡ n# w → FrontierRoom w work (n# w) len k → FrontierRoom w work n len k
room_at w work n len k e R = subst (λ (n : ℕ). FrontierRoom w work n len k) (sym e) R

-- the distance kept for a row stands in the workspace, and its place is a number that the code can hold
pub kept_there : (w work : List ℕ) (n len k r : ℕ) → FrontierRoom w work n len k → r < n# w → (r < n) × (n ≤ max_rows) × (6 * n ≤ length work)
kept_there w work n len k r R h = (omega (arith, R.rows), omega (arith, R.rows, R.shape.whole.rows), R.words)

-- position p can be read
pub place_words : (w : List ℕ) (p : ℕ) → InShape w → p < n# w → pair_at w p + 1 < length w
place_words w p S h = omega (arith, S.whole.words)

-- node k's words can be read
pub node_words_lem : (w : List ℕ) (k : ℕ) → InShape w → k < nodes# w → Whole w × (k < nodes# w)
node_words_lem w k S h = (S.whole, h)

-- ---- entries queued one by one, for the numbers lo up to e
-- the entries g 0, g 1, .. of the numbers before j are queued where their key is at most the last distance, j being next
pub record QueuedTo (work work₁ : List ℕ) (len lo e : ℕ) (g : ℕ → ℕ) (last j size : ℕ) : Type 0 where
  pub more : More work work₁ len (j - lo) g last size
  pub low : lo ≤ j
  pub high : j ≤ e

module _ (work : List ℕ) (len lo e : ℕ) (g : ℕ → ℕ) (last : ℕ) where
  -- before any is queued
  pub queued_start : lo ≤ e → Queue work 0 len → QueuedTo work work len lo e g last lo len
  queued_start h Q =
      let z : 0 ≡ lo - lo = omega arith in
      record {
        more = subst (λ (k : ℕ). More work work len k g last len) z (more_none work len g last Q);
        low = omega arith;
        high = h;
      }

  module _ (work₁ : List ℕ) (j size : ℕ) (T : QueuedTo work work₁ len lo e g last j size) where
    -- there is room for the next
    pub queued-room : (w : List ℕ) (n : ℕ) → FrontierRoom w work n len (e - lo) → j < e → size + size + 1 < length work₁
    queued-room w n R h = omega (arith, T.low, T.more.count, R.fits, T.more.outside.same, R.words)

    -- the next is queued, or lies beyond
    pub queued-step : (work₂ : List ℕ) (v size' : ℕ) → j < e → v ≡ g (j - lo) → More work₁ work₂ size 1 (λ (i : ℕ). v) last size'
        → QueuedTo work work₂ len lo e g last (j + 1) size'
    queued-step work₂ v size' h ev P =
        let next : j - lo + 1 ≡ j + 1 - lo = omega (arith, T.low) in
        record {
          more = subst (λ (k : ℕ). More work work₂ len k g last size') next
              (more_one work work₁ work₂ len (j - lo) g last size size' v T.more ev P);
          low = omega (arith, T.low);
          high = omega arith;
        }

    -- all are
    pub queued-done : e ≤ j → More work work₁ len (e - lo) g last size
    queued-done h =
        let z : j ≡ e = omega (arith, T.high) in
        subst (λ (j : ℕ). More work work₁ len (j - lo) g last size) z T.more

-- ---- the entries, as the code makes them
-- that of position p of a leaf with the bound b, its first at x, after the leaf's start s
pub place_entry : (w work : List ℕ) (n len k s b x p stored key : ℕ) → FrontierRoom w work n len k → s + 1 ≤ p → stored ≡ dist# w p
    → key ≡ max b (gap x stored) → packed key (2 * n + p) ≡ placed w b x (s + suc (p - (s + 1)))
place_entry w work n len k s b x p stored key R l es ek =
    let here : p ≡ s + suc (p - (s + 1)) = omega arith in
    ap₂ (λ (key n : ℕ). packed key (2 * n + p)) (ek ∙ ap (λ (z : ℕ). max b (gap x z)) es) R.rows ∙ ap (placed w b x) here

-- that of node j, of the children from number a on: x is what is kept for its first, r
pub node_entry : (w work work₁ : List ℕ) (n len a e b y last j size r x key : ℕ) → FrontierRoom w work n len (e - a)
    → QueuedTo work work₁ len a e (λ (i : ℕ). noded w work b y (a + i)) last j size → r ≡ first# w j → x ≡ get_or work₁ (2 * n + r) 0
    → key ≡ child_bound_lem b y x (reach# w j) → packed key j ≡ noded w work b y (a + (j - a))
node_entry w work work₁ n len a e b y last j size r x key R T er ex ek =
    let here : j ≡ a + (j - a) = omega (arith, T.low) in
    let at_x : x ≡ kept work (n# w) (first# w j) =
    ex ∙ T.more.outside.over (2 * n + r) (omega (arith, R.fits, T.low, T.high)) ∙ ap₂ (λ (n r : ℕ). kept work n r) R.rows er in
    ap (λ (key : ℕ). packed key j) (ek ∙ ap (λ (x : ℕ). child_bound_lem b y x (reach# w j)) at_x) ∙ ap (noded w work b y) here

-- ---- a leaf, as the code reads it: s is its start, c its count, f its first
module _ (w work : List ℕ) (n len k s c f : ℕ) (R : FrontierRoom w work n len (count# w k)) (h : k < nodes# w) (es : s ≡ start# w k) (ec : c ≡ count# w k)
    (ef : f ≡ first# w k) where
  -- its rows but the first are in the table, and there is room for them
  pub leaf_room : FrontierRoom w work n len (s + c - (s + 1)) × ((s < s + c) × (s + c ≤ n))
  leaf_room =
      let N = R.shape.node k h in (
        room_less w work n len (count# w k) (s + c - (s + 1)) R (omega arith),
        (omega (arith, N.some), omega (arith, N.run, R.rows)),
      )

  -- they are queued, said by the index alone
  pub leaf-more : (work' : List ℕ) (b last r : ℕ)
      → More work work' len (s + c - (s + 1)) (λ (i : ℕ). placed w b (get_or work (2 * n + f) 0) (s + suc i)) last r
      → More work work' len (count# w k - 1) (λ (i : ℕ). placed w b (kept work n (first# w k)) (start# w k + suc i)) last r
  leaf-more work' b last r M =
      let z : s + c - (s + 1) ≡ count# w k - 1 = omega arith in
      subst (λ (s : ℕ). More work work' len (count# w k - 1) (λ (i : ℕ). placed w b (kept work n (first# w k)) (s + suc i)) last r) es
      (subst (λ (f : ℕ). More work work' len (count# w k - 1) (λ (i : ℕ). placed w b (get_or work (2 * n + f) 0) (s + suc i)) last r) ef
      (subst (λ (m : ℕ). More work work' len m (λ (i : ℕ). placed w b (get_or work (2 * n + f) 0) (s + suc i)) last r) z M))
