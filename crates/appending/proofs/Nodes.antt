-- Nodes side by side that are well made, and their parts. Assumes nothing.
use Prim.Native.Nat.{◌+◌, ◌≤◌, suc, ℕ}
use Rattle.laws.proofs.Every.{every-left, every-right}
use Rattle.laws.proofs.Shares.{bit}
use Rattle.laws.proofs.Times.{tally_lefts}
use Rattle.laws.specs.Every.{Every}
use Rattle.laws.specs.Lists.{times}
use Rattle.limits.specs.Limits.{max_depth, max_distance}
use Rattle.tree.proofs.Encode.{Even}
use Rattle.tree.proofs.Full.{Full}
use Rattle.tree.proofs.Good.{Good}
use Rattle.tree.proofs.Grown.{Tight}
use Rattle.tree.proofs.Shaped.{Fine}
use Rattle.tree.proofs.Sound.{Sound}
use Rattle.tree.specs.Grove.{Grove, Reach, entries, fork, leaf, rows_in}
use lib.Dec.{eqb}
use mathlib.Core.List.{List}
use native.Mathlib.Omega.{arith}

-- nodes side by side that are well made, with `deep` levels below them
pub record Made (d : ℕ → ℕ → ℕ) (m l deep : ℕ) (g : Grove) : Type 0 where
  pub full : Full g
  pub even : Even m g
  pub fine : Fine l deep g
  pub sound : Sound d g
  pub tight : Tight d g
  pub dists : Every (λ e. e.1 ≤ max_distance) (entries g)

-- a well-made tree is
pub good_made : {d : ℕ → ℕ → ℕ} {m l : ℕ} {t : Grove} → Good d m l t → Made d m l max_depth t
good_made G = record { full = G.full; even = G.even; fine = G.fine; sound = G.sound; tight = G.tight; dists = G.dists }

-- no row stands twice in them, the row z counted
abbrev pub Once : ℕ → Grove → Type 0
Once z g = (i : ℕ) → times i (rows_in g) + bit (eqb i z) ≤ 1

module _ {d : ℕ → ℕ → ℕ} {m l deep : ℕ} {R : Reach} {es : List (ℕ × ℕ)} {g : Grove} (M : Made d m l deep (leaf R es g)) where
  -- what follows a leaf
  pub made-after-leaf : Made d m l deep g
  made-after-leaf =
      record {
        full = M.full.1;
        even = M.even;
        fine = M.fine.3;
        sound = M.sound.2;
        tight = M.tight.1;
        dists = every-right (λ e. e.1 ≤ max_distance) es (entries g) M.dists;
      }

module _ {d : ℕ → ℕ → ℕ} {m l deep : ℕ} {R : Reach} {ks g : Grove} (M : Made d m l (suc deep) (fork R ks g)) where
  -- what follows an inner node
  pub made-after-fork : Made d m l (suc deep) g
  made-after-fork =
      record {
        full = M.full.2;
        even = M.even.2;
        fine = M.fine.3;
        sound = M.sound.3;
        tight = M.tight.2;
        dists = every-right (λ e. e.1 ≤ max_distance) (entries ks) (entries g) M.dists;
      }

  -- its children
  pub made-kids : Made d m l deep ks
  made-kids =
      record {
        full = M.full.1;
        even = M.even.1;
        fine = M.fine.2;
        sound = M.sound.2;
        tight = M.tight.1;
        dists = every-left (λ e. e.1 ≤ max_distance) (entries ks) (entries g) M.dists;
      }

-- ---- no row twice, part by part
-- behind a leaf
pub once_after_leaf : (z : ℕ) (R : Reach) (es : List (ℕ × ℕ)) (g : Grove) → Once z (leaf R es g) → Once z g
once_after_leaf z R es g o i = omega (arith, o i, tally_lefts (eqb i) es (entries g))

-- behind an inner node
pub once_after_fork : (z : ℕ) (R : Reach) (ks g : Grove) → Once z (fork R ks g) → Once z g
once_after_fork z R ks g o i = omega (arith, o i, tally_lefts (eqb i) (entries ks) (entries g))

-- in its children
pub once_kids : (z : ℕ) (R : Reach) (ks g : Grove) → Once z (fork R ks g) → Once z ks
once_kids z R ks g o i = omega (arith, o i, tally_lefts (eqb i) (entries ks) (entries g))
