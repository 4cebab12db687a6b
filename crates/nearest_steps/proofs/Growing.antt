-- Rows measured one after the other: what a search knows grows. Assumes nothing.
use Prim.Native.Nat.{◌*◌, ◌+◌, ◌-◌, ◌<◌, ◌≤◌, suc, ℕ}
use Rattle.frontier.specs.Workspace.{kept}
use Rattle.index_space.specs.Items.{left_of}
use Rattle.laws.proofs.Sums.{sum_add, sum_below-same, sum_below-zero, sum_next, sum_none}
use Rattle.laws.specs.Bags.{is}
use Rattle.laws.specs.Outside.{Outside}
use Rattle.laws.specs.Upto.{sum_to}
use Rattle.nearest_steps.proofs.Filling.{left_add, left_zero}
use Rattle.nearest_steps.proofs.Staying.{held-stay, since_none, since_then, since_work, stands-stay}
use Rattle.nearest_steps.specs.Standing.{Grew, GrewAlone, GrewCentres, Stands, met_of}
use Rattle.words.specs.Words.{first#}
use mathlib.Core.Bool.{Bool, cond}
use mathlib.Core.List.{List}
use mathlib.Core.Path.{◌∙◌, ◌≡◌, ap, refl, subst, sym}
use native.Mathlib.Decide.{dec_lt}
use native.Mathlib.Omega.{arith}

-- ---- rows after rows
module _ (x : ℕ → ℕ) (gone : ℕ → Bool) (n w : ℕ) where
  -- where nothing is measured, nothing grows
  pub grew_none : (how work : List ℕ) (held : ℕ) (g : ℕ → ℕ) → ((r : ℕ) → g r ≡ 0) → Stands x gone n w how work held
      → Grew x gone n w how how work work held held g
  grew_none how work held g z St = record {
    stands = St;
    keeps = λ r h e. e;
    since = since_none n how work;
    most = omega arith;
    more = λ l. omega (arith, sum_below-zero (left_of gone g) n (λ r q. left_zero gone g r (z r)));
    best = λ H new. (H, λ r. omega (arith, z r));
  }

  -- the rows of g, and then those of h
  pub grew_then : (how how₁ how₂ work work₁ work₂ : List ℕ) (held held₁ held₂ : ℕ) (g h k : ℕ → ℕ) → ((r : ℕ) → k r ≡ g r + h r)
      → Grew x gone n w how how₁ work work₁ held held₁ g → Grew x gone n w how₁ how₂ work₁ work₂ held₁ held₂ h
      → Grew x gone n w how how₂ work work₂ held held₂ k
  grew_then how how₁ how₂ work work₁ work₂ held held₁ held₂ g h k e A B = record {
    stands = B.stands;
    keeps = λ r l e. B.keeps r l (A.keeps r l e);
    since = since_then n how how₁ how₂ work work₁ work₂ A.since B.since;
    most = omega (arith, A.most, B.most, parts);
    more = λ l.
        let b = B.more l in
        omega (arith, b, A.more (omega arith), parts);
    best = λ H new.
        let a = A.best H (λ r l. omega (arith, new r l, e r)) in
        let b = B.best a.0 (λ r l. omega (arith, new r l, e r, a.1 r)) in
        (b.0, λ r. omega (arith, b.1 r, a.1 r, e r));
  }
    where
      parts : sum_to (left_of gone k) n ≡ sum_to (left_of gone g) n + sum_to (left_of gone h) n
      parts =
          sum_below-same (left_of gone k) (λ (r : ℕ). left_of gone g r + left_of gone h r) n (λ r q. left_add gone g h k r (e r))
          ∙ sum_add (left_of gone g) (left_of gone h) n

  -- the same rows, said in another way
  pub grew-as : (how how' work work' : List ℕ) (held held' : ℕ) (g h : ℕ → ℕ) → ((r : ℕ) → g r ≡ h r)
      → Grew x gone n w how how' work work' held held' g → Grew x gone n w how how' work work' held held' h
  grew-as how how' work work' held held' g h e G = record {
    stands = G.stands;
    keeps = G.keeps;
    since = G.since;
    most = omega (arith, G.most, same);
    more = λ l. omega (arith, G.more l, same);
    best = λ H new.
        let b = G.best H (λ r l. omega (arith, new r l, e r)) in
        (b.0, λ r. omega (arith, b.1 r, e r));
  }
    where
      same : sum_to (left_of gone g) n ≡ sum_to (left_of gone h) n
      same = sum_below-same (left_of gone g) (left_of gone h) n (λ r q. ap (λ (v : ℕ). cond (gone r) 0 v) (e r))

  -- where the frontier's words change besides
  pub grew-front : (how how' work work₁ work₂ : List ℕ) (held held' : ℕ) (g : ℕ → ℕ) → Grew x gone n w how how' work work₁ held held' g
      → Outside work₁ work₂ 0 (2 * n) → Grew x gone n w how how' work work₂ held held' g
  grew-front how how' work work₁ work₂ held held' g G O = record {
    stands = stands-stay n work₁ work₂ (λ i lo hi. O.over i (omega arith)) O.same x gone w how' held' G.stands;
    keeps = λ r l e. O.over (2 * n + r) (omega arith) ∙ G.keeps r l e;
    since = since_then n how how' how' work work₁ work₂ G.since (since_work n how' work₁ work₂ 0 (2 * n) (omega arith) O);
    most = G.most;
    more = G.more;
    best = λ H new.
        let b = G.best H new in (
          held-stay n work₁ work₂ (λ i lo hi. O.over i (omega arith)) x (met_of gone how') w held' (omega (arith, G.stands.most, G.stands.wanted))
              b.0,
          b.1,
        );
  }

  -- where a row was listed before
  pub grew-listed : (how how' work work₁ work₂ : List ℕ) (held held' : ℕ) (g : ℕ → ℕ) → held ≤ n → Outside work work₁ (5 * n) (6 * n)
      → GrewAlone x gone n w how how' work₁ work₂ held held' g → GrewAlone x gone n w how how' work work₂ held held' g
  grew-listed how how' work work₁ work₂ held held' g few O G = record {
    grew = record {
      stands = G.grew.stands;
      keeps = λ r l e. G.grew.keeps r l (O.under (2 * n + r) (omega arith) ∙ e);
      since = since_then n how how how' work work₁ work₂ (since_work n how work work₁ (5 * n) (6 * n) (omega arith) O) G.grew.since;
      most = G.grew.most;
      more = G.grew.more;
      best = λ H new. G.grew.best (held-stay n work work₁ (λ i lo hi. O.under i hi) x (met_of gone how) w held few H) new;
    };
    front = λ i h. G.front i h ∙ O.under i (omega arith);
  }

-- ---- centres, one after the other
-- how many of the nodes a + 1, .. a + k have the first s
abbrev pub firsts_to : List ℕ → ℕ → ℕ → ℕ → ℕ
firsts_to index a k s = sum_to (λ (i : ℕ). is s (first# index (a + suc i))) k

-- the firsts of the nodes a + 1 up to j are measured, j being next
pub record CentresTo (x : ℕ → ℕ) (gone : ℕ → Bool) (index : List ℕ) (n w : ℕ) (how how₁ work work₁ : List ℕ) (a e j held held₁ : ℕ) : Type 0 where
  pub took : GrewCentres x gone n w how how₁ work work₁ held held₁ (firsts_to index a (j - (a + 1)))
  pub low : a + 1 ≤ j
  pub high : j ≤ e

module _ (x : ℕ → ℕ) (gone : ℕ → Bool) (index : List ℕ) (n w : ℕ) (how work : List ℕ) (a e held : ℕ) where
  -- before any centre is measured
  pub centres_start : (j : ℕ) → j ≡ a + 1 → a < e → Stands x gone n w how work held → CentresTo x gone index n w how how work work a e j held held
  centres_start j first h St =
      let z : j - (a + 1) ≡ 0 = omega arith in
      let none : (s : ℕ) → firsts_to index a (j - (a + 1)) s ≡ 0 =
      λ s. ap (λ (k : ℕ). firsts_to index a k s) z ∙ sum_none (λ (i : ℕ). is s (first# index (a + suc i))) in
      record {
        took = record {
          alone = record { grew = grew_none x gone n w how work held (firsts_to index a (j - (a + 1))) none St; front = λ i l. refl };
          seen = λ r l p. absurd (omega (arith, none r));
        };
        low = omega arith;
        high = omega arith;
      }

  -- the first of node j is measured
  pub centres-step : (how₁ how₂ work₁ work₂ : List ℕ) (j held₁ held₂ r : ℕ) → CentresTo x gone index n w how how₁ work work₁ a e j held held₁
      → j < e → r ≡ first# index j → GrewCentres x gone n w how₁ how₂ work₁ work₂ held₁ held₂ (λ (s : ℕ). is s r)
      → CentresTo x gone index n w how how₂ work work₂ a e (j + 1) held held₂
  centres-step how₁ how₂ work₁ work₂ j held₁ held₂ r C h f K = record {
    took = record {
      alone = record {
        grew = grew_then x gone n w how how₁ how₂ work work₁ work₂ held held₁ held₂ (firsts_to index a k) (λ (s : ℕ). is s r)
            (firsts_to index a (j + 1 - (a + 1))) parts C.took.alone.grew K.alone.grew;
        front = λ i l. K.alone.front i l ∙ C.took.alone.front i l;
      };
      seen = λ s l p. seen s l p (dec_lt 0 (is s r));
    };
    low = omega (arith, C.low);
    high = omega arith;
  }
    where
      k : ℕ
      k = j - (a + 1)

      parts : (s : ℕ) → firsts_to index a (j + 1 - (a + 1)) s ≡ firsts_to index a k s + is s r
      parts s =
          let here : j ≡ a + suc k = omega (arith, C.low) in
          let next : j + 1 - (a + 1) ≡ k + 1 = omega (arith, C.low) in
          ap (λ (k : ℕ). firsts_to index a k s) next ∙ sum_next (λ (i : ℕ). is s (first# index (a + suc i))) k
          ∙ ap (λ (v : ℕ). firsts_to index a k s + is s v) (sym (f ∙ ap (first# index) here))

      seen : (s : ℕ) → s < n → 0 < firsts_to index a (j + 1 - (a + 1)) s → Dec (0 < is s r) → kept work₂ n s ≡ x s
      seen s l p (yes q) = K.seen s l q
      seen s l p (no q) = K.alone.grew.keeps s l (C.took.seen s l (omega (arith, parts s)))

  -- all are measured
  pub centres-done : (how₁ work₁ : List ℕ) (j held₁ : ℕ) → e ≤ j → CentresTo x gone index n w how how₁ work work₁ a e j held held₁
      → GrewCentres x gone n w how how₁ work work₁ held held₁ (firsts_to index a (e - (a + 1)))
  centres-done how₁ work₁ j held₁ h C =
      let z : j ≡ e = omega (arith, C.high) in
      subst (λ (j : ℕ). GrewCentres x gone n w how how₁ work work₁ held held₁ (firsts_to index a (j - (a + 1)))) z C.took
