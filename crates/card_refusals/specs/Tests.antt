-- What refuses a reading, and how many words one without a refusal reads. Assumes nothing.
use Rattle.std.specs.Prelude.{◌*◌, ◌+◌, ℕ, eqb, ltb, length, cond, true, List, [], ◌++◌, ◌≡◌}
use Rattle.card_words.specs.Cards.{card_words_lem}
use Rattle.image.specs.Image.{image_faults}
use Rattle.limits.specs.Said.{Said, fault, number_faults, said, tabled}
use Rattle.measure.specs.Table.{rows_of}
use Rattle.refusals.specs.Refused.{circle_faults}
use Rattle.words.specs.Index.{fit_faults}
use Rattle.words.specs.Words.{nodes#, circles#, header_words, n#, width}

-- how many words are read, whatever the card's edition
unfoldable pub read_total : List ℕ → ℕ
read_total i =
    let v = card_words_lem i in
    header_words + width 2 * nodes# v + 2 * n# v

-- 8, 9 and 19: the card and the table. That its words are there under a possible header is 16
abbrev pub card_faults : List ℕ → ℕ → List ℕ → List Said
card_faults T c i =
    let v = card_words_lem i in
    fit_faults true v (rows_of T c) c ++ circle_faults c (circles# v) T []

-- 1, 3, 4, then 14 to 17, then 8, 9, 19, and 5 last. `room` is the number of words lent
unfoldable pub said_read_lem : List ℕ → ℕ → List ℕ → ℕ → Said
said_read_lem T c i room = said (number_faults (tabled (length T) c) ++ (image_faults i ++ (card_faults T c i ++ fault 5 (ltb room (read_total i)))))

-- what refuses a reading into `room` words, with its place, or with 0 how many words are read
pub record CardTested (T : List ℕ) (c : ℕ) (i : List ℕ) (room number place words : ℕ) : Type 0 where
  pub said : number ≡ (said_read_lem T c i room).0
  pub placed : place ≡ (said_read_lem T c i room).1
  pub counted : words ≡ cond (eqb number 0) (read_total i) 0
