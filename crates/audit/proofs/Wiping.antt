-- The workspace, wiped before the marks and after them. Assumes nothing.
use Prim.Native.Nat.{◌*◌, ◌+◌, ◌-◌, ◌<◌, ◌≤◌, ℕ}
use Rattle.repeated_rows.specs.Zeros.{Clear}
use Rattle.buffers.specs.Wiped.{wiped}
use lib.ListN.{get_or-append, drop, get_or-replicate, length, length-append, length-drop, length-replicate, replicate, take}
use lib.Seq.{drop_at, drop-drop, length-take-le}
use mathlib.Core.List.{List, ◌++◌}
use mathlib.Core.Path.{◌∙◌, ◌≡◌, ap, sym}
use native.Mathlib.Omega.{arith}

-- a front of n words that was filled with 0, and what is behind it
pub filled : (n : ℕ) (work front : List ℕ) → n ≤ length work → front ≡ replicate (length (take n work)) 0 → front ++ drop n work ≡ wiped n work
filled n work front h e = rw (e, length-take-le n work h)

-- lists that agree from n on agree from any later place on
drop-later : (n k : ℕ) (a b : List ℕ) → n ≤ k → drop n a ≡ drop n b → drop k a ≡ drop k b
drop-later n k a b h e =
    let q : n + (k - n) ≡ k = omega arith in
    sym (drop-drop (k - n) n a ∙ ap (λ (i : ℕ). drop i a) q) ∙ ap (drop (k - n)) e ∙ drop-drop (k - n) n b ∙ ap (λ (i : ℕ). drop i b) q

-- WIPED, MARKED IN THE FIRST n WORDS, AND WIPED AGAIN: 6n words are zero, and the rest is as it was. i is n as the code has it
pub wiped-again : (n : ℕ) (work marks : List ℕ) {i : ℕ} {before last : List ℕ} → i ≡ n
    → before ≡ wiped n work → drop n marks ≡ drop n before → last ≡ wiped (6 * i) marks → last ≡ wiped (6 * n) work
wiped-again n work marks e first rest again =
    let same : drop n marks ≡ drop n work = rest ∙ ap (drop n) first ∙ drop_at (replicate n 0) (drop n work) n (simp length-replicate) in
    again ∙ ap (λ (k : ℕ). wiped (6 * k) marks) e ∙ ap (λ l. replicate (6 * n) 0 ++ l) (drop-later n (6 * n) marks work (omega arith) same)
