-- `header_test::words_ok` meets its contract: a good header bounds the words that its nodes take, and its count of words decides.
use Rattle.std.proofs.Common.{arith, ◌≤◌, length, ◌≡◌, ◌∙◌, sym, ℕ, ◌*◌, Bool, true, false, List}
use Rattle.header_test.proofs.words_ok.Goals as goal
use Rattle.header_test.proofs.words_ok.Goals.{then-index-ge-HEADER, else-index-ge-HEADER}
use Rattle.words.proofs.Headers.{bad-header, few_words, good-words, header-card, nodes-words}
use Rattle.words.specs.Words.{nodes#, edition#, header_ok_lem, width}
use borrow.Author.Tests.{lt-leb}
use lib.Dec.{T}
use mathlib.Core.Path.{subst}

-- the nodes' words, by the edition
product : (w : List ℕ) {a b : ℕ} → header_ok_lem w ≡ true → a ≡ width (edition# w) → b ≡ nodes# w → (a * b ≡ width (edition# w) * nodes# w) × (a * b ≤ 5 * b)
product w h p q = nodes-words w (header-card w h).1 p q

-- the test of the header passed, as the code took the `&&`
taken : {v r t : Bool} → v ≡ true → v ≡ r → r ≡ t → t ≡ true
taken p q e = sym e ∙ sym q ∙ p

-- the code did not take it after too few words
untaken : {A : Type 0} {v : Bool} → v ≡ true → v ≡ false → A
untaken p q = absurd (subst T (sym p ∙ q) tt)

pub overflow_mul-result : goal.overflow_mul-result
overflow_mul-result c =
    let h : header_ok_lem c.args.index.now ≡ true = elim c.if-index-ge-HEADER.branch [
      | then-index-ge-HEADER w ↦ taken c.if-header_ok.true w.value-is w.header_ok.ensures
      | else-index-ge-HEADER w ↦ untaken c.if-header_ok.true (w.value-is ∙ lt-leb 8 (length c.args.index.now) w.if-index-ge-HEADER.false)
    ] in
    omega (arith, (product c.args.index.now h c.width.ensures.0 c.nodes.ensures.0).1, c.nodes.ensures.1)

pub overflow_add-result : goal.overflow_add-result
overflow_add-result c =
    let h : header_ok_lem c.args.index.now ≡ true = elim c.if-index-ge-HEADER.branch [
      | then-index-ge-HEADER w ↦ taken c.if-header_ok.true w.value-is w.header_ok.ensures
      | else-index-ge-HEADER w ↦ untaken c.if-header_ok.true (w.value-is ∙ lt-leb 8 (length c.args.index.now) w.if-index-ge-HEADER.false)
    ] in
    omega (arith, (product c.args.index.now h c.width.ensures.0 c.nodes.ensures.0).1, c.nodes.ensures.1)

pub overflow_add-result-then-header_ok : goal.overflow_add-result-then-header_ok
overflow_add-result-then-header_ok c =
    let h : header_ok_lem c.args.index.now ≡ true = elim c.if-index-ge-HEADER.branch [
      | then-index-ge-HEADER w ↦ taken c.if-header_ok.true w.value-is w.header_ok.ensures
      | else-index-ge-HEADER w ↦ untaken c.if-header_ok.true (w.value-is ∙ lt-leb 8 (length c.args.index.now) w.if-index-ge-HEADER.false)
    ] in
    omega (arith, (product c.args.index.now h c.width.ensures.0 c.nodes.ensures.0).1, c.nodes.ensures.1, c.rows.ensures.1)

pub returns-then-header_ok : goal.returns-then-header_ok
returns-then-header_ok c =
    let i = c.args.index.now in
    elim c.if-index-ge-HEADER.branch [
      | then-index-ge-HEADER w ↦
          let h : header_ok_lem i ≡ true = taken c.if-header_ok.true w.value-is w.header_ok.ensures in
          rw ((product i h c.width.ensures.0 c.nodes.ensures.0).0, c.rows.ensures.0) (good-words i w.if-index-ge-HEADER.true h)
      | else-index-ge-HEADER w ↦ untaken c.if-header_ok.true (w.value-is ∙ lt-leb 8 (length c.args.index.now) w.if-index-ge-HEADER.false)
    ]

pub returns-else-header_ok : goal.returns-else-header_ok
returns-else-header_ok c =
    let i = c.args.index.now in
    elim c.if-index-ge-HEADER.branch [
      | then-index-ge-HEADER w ↦ c.if-header_ok.false ∙ bad-header i (sym w.header_ok.ensures ∙ sym w.value-is ∙ c.if-header_ok.false)
      | else-index-ge-HEADER w ↦ c.if-header_ok.false ∙ few_words i w.if-index-ge-HEADER.false
    ]
