-- What a search knows stays where the words that tell it stay, and what lies beyond its rooms stays always. Assumes nothing.
use Prim.Native.Nat.{◌*◌, ◌+◌, ◌-◌, ◌<◌, ◌≤◌, ℕ}
use Rattle.answers_held.specs.Answers.{BestHeld, distance_of, last_of, row_of, stray}
use Rattle.index_space.specs.Items.{greatest_word}
use Rattle.laws.proofs.Outside.{outside_more}
use Rattle.laws.specs.Bags.{total}
use Rattle.laws.specs.Outside.{Outside}
use Rattle.measure.specs.Table.{from}
use Rattle.nearest_steps.specs.Standing.{GrewAlone, GrewCentres, Ready, Since, Stands}
use Rattle.queue.proofs.Entries.{entries-stay}
use Rattle.queue.proofs.Queued.{queue_stays}
use Rattle.queue.specs.Entry.{entry_at, packed}
use Rattle.queue.specs.Queue.{Queue, entries}
use Rattle.words.specs.Words.{at, circles#, n#}
use lib.Dec.{ltb}
use lib.ListN.{get_or, length}
use mathlib.Core.Bool.{Bool, cond}
use mathlib.Core.List.{List}
use mathlib.Core.Path.{◌∙◌, ◌≡◌, ap, ap₂, refl, subst, sym}
use native.Mathlib.Omega.{arith}

module _ (n : ℕ) (work work' : List ℕ) where
  -- ---- the answers' words stay
  module _ (same : (i : ℕ) → 3 * n ≤ i → i < 5 * n → get_or work' i 0 ≡ get_or work i 0) where
    -- the answers stay
    answers_stay : (k : ℕ) → k ≤ n → entries work' (3 * n) k ≡ entries work (3 * n) k
    answers_stay k h = entries-stay work work' (3 * n) k (λ i lo hi. same i lo (omega arith))

    -- the best that were held are held
    pub held-stay : (x m : ℕ → ℕ) (w held : ℕ) → held ≤ n → BestHeld x m n work (3 * n) w held → BestHeld x m n work' (3 * n) w held
    held-stay x m w held h H = record { floor = H.floor; bag = λ f. ap (total f) (answers_stay held h) ∙ H.bag f; all = H.all }

    -- the last distance stays
    pub last-stays : (w held : ℕ) → 1 ≤ n → last_of work' (3 * n) w held ≡ last_of work (3 * n) w held
    unfolding entry_at last_of
    last-stays w held h =
        ap₂ (λ (a b : ℕ). cond (ltb held w) greatest_word (distance_of (packed a b))) (same (3 * n + 1) (omega arith) (omega arith))
        (same (3 * n) (omega arith) (omega arith))

    -- all that a search knows stays
    pub stands-stay : length work' ≡ length work → (x : ℕ → ℕ) (gone : ℕ → Bool) (w : ℕ) (how : List ℕ) (held : ℕ) → Stands x gone n w how work held
        → Stands x gone n w how work' held
    stands-stay long x gone w how held St = record {
      queue = queue_stays work work' (3 * n) held (λ i lo hi. same i lo (omega (arith, St.most, St.wanted))) long St.queue;
      most = St.most;
      own = ap (total (stray x n)) kept-all ∙ St.own;
      remain = ap (total (λ (e : ℕ). cond (gone (row_of e)) 1 0)) kept-all ∙ St.remain;
      marked = ap (total (λ (e : ℕ). 1 - at how (row_of e))) kept-all ∙ St.marked;
      near = St.near;
      bits = St.bits;
      bytes = St.bytes;
      room = omega (arith, St.room);
      wanted = St.wanted;
      small = St.small;
    }
      where
        kept-all : entries work' (3 * n) held ≡ entries work (3 * n) held
        kept-all = answers_stay held (omega (arith, St.most, St.wanted))

-- where the frontier's words stay, so does the frontier
pub frontier_stays : (n : ℕ) (work work' : List ℕ) (len : ℕ) → len ≤ n → ((i : ℕ) → i < 2 * n → get_or work' i 0 ≡ get_or work i 0)
    → length work' ≡ length work → Queue work 0 len → Queue work' 0 len × (entries work' 0 len ≡ entries work 0 len)
frontier_stays n work work' len h same long Q = (
  queue_stays work work' 0 len (λ i lo hi. same i (omega arith)) long Q,
  entries-stay work work' 0 len (λ i lo hi. same i (omega arith)),
)

-- queueing m more changes the frontier's words alone
pub front_alone : (n len m : ℕ) (work work' : List ℕ) → len + m ≤ n → Outside work work' 0 (len + m + (len + m)) → Outside work work' 0 (2 * n)
front_alone n len m work work' h = outside_more work work' 0 (2 * n) 0 (len + m + (len + m)) (omega arith) (omega arith)

-- so the last distance that the code found stays
pub last_then : (w : List ℕ) (wanted : ℕ) (work work' : List ℕ) (held last n : ℕ) → 1 ≤ n# w → n ≡ n# w → last ≡ last_of work (3 * n) wanted held
    → Outside work work' 0 (2 * n# w) → last ≡ last_of work' (3 * n# w) wanted held
last_then w wanted work work' held last n some en el O =
    el ∙ ap (λ (n : ℕ). last_of work (3 * n) wanted held) en ∙ sym (last-stays (n# w) work work' (λ i lo hi. O.over i (omega arith)) wanted held some)

-- ---- what lies beyond stays
-- where nothing is written
pub since_none : (n : ℕ) (how work : List ℕ) → Since n how how work work
since_none n how work = record { bytes = refl; words = refl; past = λ i h. refl; over = λ i h. refl }

-- through one call and then another
pub since_then : (n : ℕ) (how how₁ how₂ work work₁ work₂ : List ℕ) → Since n how how₁ work work₁ → Since n how₁ how₂ work₁ work₂
    → Since n how how₂ work work₂
since_then n how how₁ how₂ work work₁ work₂ A B = record {
  bytes = B.bytes ∙ A.bytes;
  words = B.words ∙ A.words;
  past = λ i h. B.past i h ∙ A.past i h;
  over = λ i h. B.over i h ∙ A.over i h;
}

-- where the workspace alone changes, below word 6n
pub since_work : (n : ℕ) (how work work' : List ℕ) (lo hi : ℕ) → hi ≤ 6 * n → Outside work work' lo hi → Since n how how work work'
since_work n how work work' lo hi h O = record { bytes = refl; words = O.same; past = λ i l. refl; over = λ i l. O.over i (omega arith) }

-- ---- what measuring needs
-- a row of the table can be measured, whatever is known by then
pub ready_on : (t : List ℕ) (c o : ℕ) (q : List ℕ) (gone : ℕ → Bool) (n w : ℕ) (how how' work work' : List ℕ) (held held' : ℕ)
    → Ready t c o q gone n w how work held → Stands (from t c o q) gone n w how' work' held' → Ready t c o q gone n w how' work' held'
ready_on t c o q gone n w how how' work work' held held' R St =
    record { stands = St; columns = R.columns; table = R.table; query = R.query }

-- the same for the circles as the code holds them
pub ready_by : (t : List ℕ) (c : ℕ) (q w : List ℕ) (gone : ℕ → Bool) (n wanted : ℕ) (how work : List ℕ) (held o : ℕ) → o ≡ circles# w
    → Ready t c (circles# w) q gone n wanted how work held → Ready t c o q gone n wanted how work held
ready_by t c q w gone n wanted how work held o eo R = subst (λ (o : ℕ). Ready t c o q gone n wanted how work held) (sym eo) R

-- and for the number of rows
pub ready_at : (t : List ℕ) (c : ℕ) (q w : List ℕ) (gone : ℕ → Bool) (wanted : ℕ) (how work : List ℕ) (held n o : ℕ) → n ≡ n# w → o ≡ circles# w
    → Ready t c (circles# w) q gone (n# w) wanted how work held → Ready t c o q gone n wanted how work held
ready_at t c q w gone wanted how work held n o en eo R =
    ready_by t c q w gone n wanted how work held o eo (subst (λ (n : ℕ). Ready t c (circles# w) q gone n wanted how work held) (sym en) R)

-- what was measured by them, said by the index
pub grew_by : (t : List ℕ) (c : ℕ) (q w : List ℕ) (gone : ℕ → Bool) (n wanted : ℕ) (how how' work work' : List ℕ) (held held' : ℕ) (g : ℕ → ℕ) (o : ℕ)
    → o ≡ circles# w → GrewAlone (from t c o q) gone n wanted how how' work work' held held' g
    → GrewAlone (from t c (circles# w) q) gone n wanted how how' work work' held held' g
grew_by t c q w gone n wanted how how' work work' held held' g o eo K =
    subst (λ (o : ℕ). GrewAlone (from t c o q) gone n wanted how how' work work' held held' g) eo K

-- and where centres were
pub centres-by : (t : List ℕ) (c : ℕ) (q w : List ℕ) (gone : ℕ → Bool) (n wanted : ℕ) (how how' work work' : List ℕ) (held held' : ℕ) (g : ℕ → ℕ)
    (o : ℕ)
    → o ≡ circles# w → GrewCentres (from t c o q) gone n wanted how how' work work' held held' g
    → GrewCentres (from t c (circles# w) q) gone n wanted how how' work work' held held' g
centres-by t c q w gone n wanted how how' work work' held held' g o eo K =
    subst (λ (o : ℕ). GrewCentres (from t c o q) gone n wanted how how' work work' held held' g) eo K
