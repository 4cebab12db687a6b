-- Behind a word that does not begin with two dashes nothing waits for a value.
use Rattle.std.proofs.Common.{Err, IfOk, Ok, Result, refl, sym, ◌∙◌}
use Rattle.asking.proofs.Waiting.{plain_word}
use Rattle.asking.proofs.reading.Reading.put_word.Goals as goal

-- what holds anyway holds of what is returned
holds : {T E P : Type 0} → (r : Result T E) → P → IfOk r (λ _. P)
holds (Ok x) p = p
holds (Err e) p = tt

pub returns-in-None-2 : goal.returns-in-None-2
returns-in-None-2 c =
    let h = sym c.if-is_option-2.false ∙ c.starts_with-is_option.ensures.value in
    holds c.put_plain.result (rw (c.put_plain.ensures, c.in-None.is, plain_word _ _ refl h c.bytes_of-word.ensures))
