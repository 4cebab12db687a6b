-- One row measured: it is marked and entered among the answers, unless it is withdrawn or too far; of a centre the distance is kept besides.
-- Assumes nothing.
use Prim.Native.Nat.{◌*◌, ◌+◌, ◌-◌, ◌<◌, ◌≤◌, min, ℕ}
use Rattle.answers_held.proofs.Entering.{enter-less, enter-most, enter-none, enter_one, enter-up}
use Rattle.answers_held.proofs.Holding.{enter-held, held_as}
use Rattle.answers_held.proofs.LastOf.{last_full, last_room}
use Rattle.answers_held.proofs.RowEntries.{far_less, own-entry, row-turned}
use Rattle.answers_held.specs.Answers.{BestHeld, Entered, HeldQueue, distance_of, last_of, row_of, stray, turned}
use Rattle.best_first.specs.Search.{both}
use Rattle.frontier.specs.Workspace.{kept}
use Rattle.index_space.specs.Items.{left_of, live_of}
use Rattle.laws.proofs.Bags.{total-none}
use Rattle.laws.proofs.Ones.{is_bit, is-not, is_same, is_self}
use Rattle.laws.proofs.Outside.{outside-same, outside_set}
use Rattle.laws.specs.Bags.{is, total}
use Rattle.laws.specs.Outside.{Outside}
use Rattle.limits.specs.Limits.{max_distance}
use Rattle.measure.specs.Distance.{capped}
use Rattle.nearest_steps.proofs.Filling.{left_zero, sum_one}
use Rattle.nearest_steps.proofs.Growing.{grew-listed}
use Rattle.nearest_steps.proofs.Staying.{held-stay, last-stays, stands-stay}
use Rattle.nearest_steps.specs.Handled.{Handled}
use Rattle.nearest_steps.specs.Standing.{GrewAlone, GrewCentres, Stands, met_of}
use Rattle.queue.specs.Entry.{entry_at}
use Rattle.queue.specs.Queue.{Queue, entries}
use Rattle.rows_listed.proofs.MetRows.{listed-front}
use Rattle.rows_listed.specs.Listed.{ListedTo, Marked}
use Rattle.words.specs.Words.{at}
use lib.ListN.{get_or, length, length-set, set}
use lib.Seq.{get_or-set_other, get_or-set_same}
use mathlib.Core.Bool.{Bool, cond, false, true}
use mathlib.Core.List.{List}
use mathlib.Core.Logic.{◌≢◌}
use mathlib.Core.Path.{◌∙◌, ◌≡◌, ap, refl, subst, sym}
use native.Mathlib.Decide.{dec_lt, ℕ_discrete}
use native.Mathlib.Omega.{arith}

-- a byte set to 1, that was 0, is one more
byte_more : (how : List ℕ) (r s : ℕ) → r < length how → at how r ≡ 0 → at (set how r 1) s ≡ at how s + is s r
byte_more how r s h z = go (ℕ_discrete s r)
  where
    go : Dec (s ≡ r) → at (set how r 1) s ≡ at how s + is s r
    go (yes e) = subst (λ (s : ℕ). at (set how r 1) s ≡ at how s + is s r) (sym e) (omega (arith, get_or-set_same how r 1 0 h))
    go (no e) = omega (arith, get_or-set_other how r s 1 0 e)

-- a number that is at most the ceiling is the distance
pub exact : (ceiling v d : ℕ) → v ≡ capped ceiling d → d ≤ max_distance → v ≤ ceiling → v ≡ d
exact ceiling v d e h l = omega arith

-- ---- what becomes of the answers as row r is measured
-- a row that remains counts itself
left_live : (gone : ℕ → Bool) (r s : ℕ) → gone r ≡ false → left_of gone (λ (s : ℕ). is s r) s ≡ is s r
left_live gone r s e = go (ℕ_discrete s r)
  where
    go : Dec (s ≡ r) → left_of gone (λ (s : ℕ). is s r) s ≡ is s r
    go (yes f) = ap (λ (b : Bool). cond b 0 (is s r)) (ap gone f ∙ e)
    go (no f) = left_zero gone (λ (s : ℕ). is s r) s (is-not s r f) ∙ sym (is-not s r f)

-- a row that is withdrawn counts nothing
left_gone : (gone : ℕ → Bool) (r s : ℕ) → gone r ≡ true → left_of gone (λ (s : ℕ). is s r) s ≡ 0
left_gone gone r s e = go (ℕ_discrete s r)
  where
    go : Dec (s ≡ r) → left_of gone (λ (s : ℕ). is s r) s ≡ 0
    go (yes f) = ap (λ (b : Bool). cond b 0 (is s r)) (ap gone f ∙ e)
    go (no f) = left_zero gone (λ (s : ℕ). is s r) s (is-not s r f)

-- a row that is new and measured is one more of those measured that remain, where it remains
met_more : (gone : ℕ → Bool) (h h' : ℕ → ℕ) (r s : ℕ) → h r ≡ 0 → h' s ≡ h s + is s r
    → both h' (live_of gone) s ≡ both h (live_of gone) s + left_of gone (λ (s : ℕ). is s r) s
met_more gone h h' r s z e = ap (λ (v : ℕ). min v (live_of gone s)) e ∙ at (gone s) (ℕ_discrete s r)
  where
    at : (b : Bool) → Dec (s ≡ r) → min (h s + is s r) (cond b 0 1) ≡ min (h s) (cond b 0 1) + cond b 0 (is s r)
    at true d = omega arith
    at false (yes f) = omega (arith, ap h f, is_bit s r)
    at false (no f) = omega (arith, is-not s r f)

module _ (x : ℕ → ℕ) (gone : ℕ → Bool) (n w : ℕ) (how work : List ℕ) (held : ℕ) (St : Stands x gone n w how work held) (r : ℕ) (row : r < n) where
  -- the row can be entered among the answers
  pub room-to-enter : HeldQueue work (3 * n) w held
  room-to-enter = record { queue = St.queue; most = St.most; some = St.wanted.0; room = omega (arith, St.room, St.wanted.1) }

  -- ---- it is at d
  module _ (d : ℕ) (e : d ≡ x r) (near : d ≤ max_distance) where
    -- A ROW THAT IS WITHDRAWN IS NOT ENTERED: the answers are as they were
    pub passed-by : gone r ≡ true → Handled x gone n w r work work held held
    passed-by g =
        let zero : live_of gone r ≡ 0 = ap (λ (b : Bool). cond {A = ℕ} b 0 1) g in
        record {
          queue = St.queue;
          most = St.most;
          own = St.own;
          remain = St.remain;
          none = λ f z t. t;
          outside = outside-same work (3 * n) (3 * n + (w + w));
          up = omega arith;
          more = λ l. omega (arith, zero);
          best = λ m m' H z grown. held_as x m m' n work (3 * n) w held (λ s. omega (arith, grown s, left_gone gone r s g)) H;
        }

    -- ONE THAT REMAINS IS
    pub entered : gone r ≡ false → (work' : List ℕ) (held' v : ℕ) → v ≡ turned r d → Entered work work' (3 * n) w held v held'
        → Handled x gone n w r work work' held held'
    entered g work' held' v ev E₀ =
        let E : Entered work work' (3 * n) w held (turned r d) held' = subst (λ (v : ℕ). Entered work work' (3 * n) w held v held') ev E₀ in
        let one : live_of gone r ≡ 1 = ap (λ (b : Bool). cond {A = ℕ} b 0 1) g in
        record {
          queue = E.queue;
          most = enter-most work work' (3 * n) w held (turned r d) held' E St.most;
          own = enter-none work work' (3 * n) w held (turned r d) held' E (stray x n)
              (ap (λ (z : ℕ). stray x n (turned r z)) e ∙ own-entry x n r St.small row (omega arith)) St.own;
          remain = enter-none work work' (3 * n) w held (turned r d) held' E (λ (e : ℕ). cond (gone (row_of e)) 1 0)
              (ap (λ (b : Bool). cond {A = ℕ} b 1 0) (ap gone (row-turned r d (omega (arith, St.small))) ∙ g)) St.remain;
          none = λ f z t. enter-none work work' (3 * n) w held (turned r d) held' E f (ap (λ (d : ℕ). f (turned r d)) e ∙ z) t;
          outside = E.outside;
          up = omega (arith, one, enter-up work work' (3 * n) w held (turned r d) held' E);
          more = λ l. omega (arith, one, enter_one work work' (3 * n) w held (turned r d) held' E St.most l);
          best = λ m m' H z grown.
              enter-held x m n work (3 * n) w held St.queue H St.small m' r row z
              (λ s. omega (arith, grown s, left_live gone r s g)) work' held'
              St.wanted.0 St.most (subst (λ (d : ℕ). Entered work work' (3 * n) w held (turned r d) held') e E);
        }

    -- AND ONE THAT IS FARTHER THAN THE LAST DISTANCE NEED NOT BE: it is worse than all that are held
    pub too_far : last_of work (3 * n) w held < d → Handled x gone n w r work work held held
    too_far far = go (gone r) refl
      where
        full : w ≤ held
        full = at (dec_lt held w)
          where
            at : Dec (held < w) → w ≤ held
            at (yes l) = absurd (omega (arith, last_room work (3 * n) w held l))
            at (no l) = omega arith

        top : ℕ
        top = entry_at work (3 * n)

        worse : turned r d < top
        worse = far_less r d top near (omega (arith, last_full work (3 * n) w held top (distance_of top) full refl refl))

        go : (b : Bool) → gone r ≡ b → Handled x gone n w r work work held held
        go true g = passed-by g
        go false g = entered g work held (turned r d) refl (enter-less work (3 * n) w held (turned r d) room-to-enter full worse)

    -- ---- and it is marked
    module _ (how' work' : List ℕ) (held' : ℕ) (eh : how' ≡ set how r 1) (K : Handled x gone n w r work work' held held') where
      -- its how-byte is 1
      byte : at how' r ≡ 1
      byte = ap (λ (l : List ℕ). at l r) eh ∙ get_or-set_same how r 1 0 (omega (arith, St.bytes))

      -- the other how-bytes stay
      byte_other : (s : ℕ) → s ≢ r → at how' s ≡ at how s
      byte_other s ne = ap (λ (l : List ℕ). at l s) eh ∙ get_or-set_other how r s 1 0 ne

      -- no measured row is farther than a distance can be
      near-all : (s : ℕ) → s < n → 0 < at how' s → Dec (s ≡ r) → x s ≤ max_distance
      near-all s h p (yes f) = omega (arith, ap x f)
      near-all s h p (no f) = St.near s h (omega (arith, byte_other s f))

      -- every how-byte is 0 or 1, its own 1
      bit : (s : ℕ) → s < n → Dec (s ≡ r) → at how' s ≤ 1
      bit s h (yes f) = omega (arith, ap (at how') f, byte)
      bit s h (no f) = omega (arith, byte_other s f, St.bits s h)

      -- all that are held are marked: those that were held, and the row
      held-marked : total (λ (e : ℕ). 1 - at how' (row_of e)) (entries work' (3 * n) held') ≡ 0
      held-marked =
          K.none (λ (e : ℕ). 1 - at how' (row_of e)) (own-marked (row_of (turned r (x r))) (row-turned r (x r) (omega (arith, St.small))))
          (total-none (λ (e : ℕ). 1 - at how' (row_of e)) (λ (e : ℕ). 1 - at how (row_of e)) (entries work (3 * n) held)
          (λ e z p. stays (row_of e) z p (ℕ_discrete (row_of e) r)) St.marked)
        where
          own-marked : (s : ℕ) → s ≡ r → 1 - at how' s ≡ 0
          own-marked s e = omega (arith, ap (at how') e, byte)

          stays : (s : ℕ) → 1 - at how s ≡ 0 → 0 < 1 - at how' s → Dec (s ≡ r) → ⊥
          stays s z p (yes e) = omega (arith, own-marked s e)
          stays s z p (no e) = omega (arith, byte_other s e)

      -- what the search then knows
      after : Stands x gone n w how' work' held'
      after = record {
        queue = K.queue;
        most = K.most;
        own = K.own;
        remain = K.remain;
        marked = held-marked;
        near = λ s h p. near-all s h p (ℕ_discrete s r);
        bits = λ s h. bit s h (ℕ_discrete s r);
        bytes = omega (arith, ap length eh, length-set how r 1, St.bytes);
        room = omega (arith, St.room, K.outside.same);
        wanted = St.wanted;
        small = St.small;
      }

      -- where the best were held and the row is new, the best are held again
      best : BestHeld x (met_of gone how) n work (3 * n) w held → ((s : ℕ) → s < n → at how s + is s r ≤ 1)
          → BestHeld x (met_of gone how') n work' (3 * n) w held' × ((s : ℕ) → at how' s ≡ at how s + is s r)
      best H new =
          let zero : at how r ≡ 0 = omega (arith, new r row, is_self r) in
          let more : (s : ℕ) → at how' s ≡ at how s + is s r =
          λ s. ap (λ (l : List ℕ). at l s) eh ∙ byte_more how r s (omega (arith, St.bytes)) zero in (
            K.best (met_of gone how) (met_of gone how') H (omega (arith, zero)) (λ s. met_more gone (at how) (at how') r s zero (more s)),
            more,
          )

      -- THE ROW IS MEASURED
      pub took : GrewAlone x gone n w how how' work work' held held' (λ (s : ℕ). is s r)
      took = record {
        grew = record {
          stands = after;
          keeps = λ s h f. K.outside.under (2 * n + s) (omega arith) ∙ f;
          since = record {
            bytes = ap length eh ∙ length-set how r 1;
            words = K.outside.same;
            past = λ i h. byte_other i (omega arith);
            over = λ i h. K.outside.over i (omega (arith, St.wanted.1));
          };
          most = omega (arith, K.up, sum_one gone n r row);
          more = λ l. omega (arith, K.more l, sum_one gone n r row);
          best = best;
        };
        front = λ i h. K.outside.under i (omega arith);
      }

-- ---- the row is listed first, which changes no answer
module _ (x : ℕ → ℕ) (gone : ℕ → Bool) (n w : ℕ) (how work : List ℕ) (held : ℕ) (St : Stands x gone n w how work held) (r : ℕ) (row : r < n)
    (how₁ work₁ : List ℕ) (next₁ : ℕ) (M : Marked n r how how₁ work work₁ next₁) where
  -- what the search knows stays
  pub stands-listed : Stands x gone n w how work₁ held
  stands-listed = stands-stay n work work₁ (λ i lo hi. M.outside.under i hi) M.outside.same x gone w how held St

  -- so does the last distance
  pub last-listed : last_of work₁ (3 * n) w held ≡ last_of work (3 * n) w held
  last-listed = last-stays n work work₁ (λ i lo hi. M.outside.under i hi) w held (omega arith)

  -- THE ROW IS MEASURED
  pub took-listed : x r ≤ max_distance → (work' : List ℕ) (held' : ℕ) → Handled x gone n w r work₁ work' held held'
      → GrewAlone x gone n w how how₁ work work' held held' (λ (s : ℕ). is s r) × ListedTo n how₁ work' next₁
  took-listed near work' held' K = (
    grew-listed x gone n w how how₁ work work₁ work' held held' (λ (s : ℕ). is s r) (omega (arith, St.most, St.wanted)) M.outside
        (took x gone n w how work₁ held stands-listed r row (x r) refl near how₁ work' held' M.byte K),
    listed-front n how₁ work₁ next₁ M.listed work' (3 * n) (3 * n + (w + w)) (omega (arith, St.wanted)) K.outside,
  )

-- ---- a row that is a centre: its distance is kept besides
module _ (x : ℕ → ℕ) (gone : ℕ → Bool) (n w : ℕ) (how how' work work₁ work₂ : List ℕ) (held held' r d : ℕ) (row : r < n)
    (K : GrewAlone x gone n w how how' work work₁ held held' (λ (s : ℕ). is s r)) (e : d ≡ x r) (ew : work₂ ≡ set work₁ (2 * n + r) d) where
  -- the other words stay
  other : (i : ℕ) → i ≢ 2 * n + r → get_or work₂ i 0 ≡ get_or work₁ i 0
  other i ne = ap (λ (l : List ℕ). get_or l i 0) ew ∙ get_or-set_other work₁ (2 * n + r) i d 0 ne

  -- the workspace is as long as it was
  pub long : length work₂ ≡ length work₁
  long = ap length ew ∙ length-set work₁ (2 * n + r) d

  -- it is kept
  own-kept : kept work₂ n r ≡ x r
  own-kept = ap (λ (l : List ℕ). get_or l (2 * n + r) 0) ew ∙ get_or-set_same work₁ (2 * n + r) d 0 (omega (arith, K.grew.stands.room)) ∙ e

  -- and so is every distance that was
  keeps : (s : ℕ) → s < n → kept work n s ≡ x s → Dec (s ≡ r) → kept work₂ n s ≡ x s
  keeps s h f (yes q) = subst (λ (s : ℕ). kept work₂ n s ≡ x s) (sym q) own-kept
  keeps s h f (no q) = other (2 * n + s) (omega arith) ∙ K.grew.keeps s h f

  -- the rows listed stay
  pub centre-listed : {next : ℕ} → ListedTo n how' work₁ next → ListedTo n how' work₂ next
  centre-listed {next} L =
      listed-front n how' work₁ next L work₂ (2 * n) (3 * n) (omega arith)
      (subst (λ (l : List ℕ). Outside work₁ l (2 * n) (3 * n)) (sym ew) (outside_set work₁ (2 * n) (3 * n) (2 * n + r) d (omega arith) (omega arith)))

  -- THE CENTRE IS MEASURED
  pub centred : GrewCentres x gone n w how how' work work₂ held held' (λ (s : ℕ). is s r)
  centred = record {
    alone = record {
      grew = record {
        stands = stands-stay n work₁ work₂ (λ i lo hi. other i (omega arith)) long x gone w how' held' K.grew.stands;
        keeps = λ s h f. keeps s h f (ℕ_discrete s r);
        since = record {
          bytes = K.grew.since.bytes;
          words = long ∙ K.grew.since.words;
          past = K.grew.since.past;
          over = λ i h. other i (omega arith) ∙ K.grew.since.over i h;
        };
        most = K.grew.most;
        more = K.grew.more;
        best = λ H new.
            let b = K.grew.best H new in (
              held-stay n work₁ work₂ (λ i lo hi. other i (omega arith)) x (met_of gone how') w held'
                  (omega (arith, K.grew.stands.most, K.grew.stands.wanted)) b.0,
              b.1,
            );
      };
      front = λ i h. other i (omega arith) ∙ K.front i h;
    };
    seen = λ s h p. subst (λ (s : ℕ). kept work₂ n s ≡ x s) (sym (is_same s r p)) own-kept;
  }
