-- What the code did is what the contracts say, and no number is above 18. Assumes nothing.
use Prim.Native.Nat.{◌-◌, ◌≤◌, ℕ}
use Rattle.build.proofs.Small.{build_low}
use Rattle.build.specs.Calls.{Builds}
use Rattle.lister.proofs.Low.{text_low}
use Rattle.lister.specs.Listing.{Lists, Runs}
use Rattle.measure.proofs.OnCircle.{plain_on}
use Rattle.text_reading.specs.Calls.{Reads}
use lib.ListN.{drop, get_or, length, length-drop, take}
use lib.Seq.{take_all}
use mathlib.Core.Bool.{Bool, cond}
use mathlib.Core.List.{List}
use mathlib.Core.Logic.{⊎_elim}
use mathlib.Core.Path.{◌∙◌, ◌≡◌, ap, refl, sym}
use native.Mathlib.Decide.{ℕ_discrete}
use native.Mathlib.Omega.{arith}

module _ {text numbers numbers' room work : List ℕ} {kept reading count : ℕ} (i : kept ≤ length text)
    (r : Reads (take kept text) numbers numbers' reading count) where
  -- the text can't be read
  pub runs-unread : {number : ℕ} → (reading ≡ 0 → ⊥) → number ≡ reading → Runs text numbers numbers' room room work work number
  runs-unread k e =
      record {
        kept = kept;
        reading = reading;
        count = count;
        inside = i;
        reads = r;
        refused = λ n. (e, refl, refl);
        listed = λ z. absurd (k z);
      }

  -- its numbers were listed
  pub runs-listed : {room' work' : List ℕ} {number : ℕ} → reading ≡ 0 → Lists (take count numbers') room room' work work' number
      → Runs text numbers numbers' room room' work work' number
  runs-listed z l =
      record {
        kept = kept;
        reading = reading;
        count = count;
        inside = i;
        reads = r;
        refused = λ n. absurd (n z);
        listed = λ y. l;
      }

-- NO NUMBER IS ABOVE 18
pub runs_low : {text numbers numbers' room room' work work' : List ℕ} {number : ℕ} → Runs text numbers numbers' room room' work work' number
    → number ≤ 18
runs_low {text} {numbers} {numbers'} {number = number} r = go (ℕ_discrete r.reading 0)
  where
    go : Dec (r.reading ≡ 0) → number ≤ 18
    go (yes z) =
        let ns : List ℕ = take r.count numbers' in
        ⊎_elim (λ h. omega arith) (λ p. absurd (omega (arith, ap {B = ℕ} (λ (b : Bool). cond b 1 0) (sym p.1 ∙ plain_on (drop 3 ns) (get_or ns 0 0)))))
        (build_low (r.listed z).built)
    go (no k) = omega (arith, (r.refused k).0, text_low (take r.kept text) (length numbers) r.reading r.reads.said)
