-- Why a reading is refused: one law for each return of the code, and what holds where nothing is refused. Assumes nothing.
use Prim.Native.Nat.{◌<◌, ◌≤◌, ℕ}
use Rattle.card_members.proofs.Tabled.{card_tabled}
use Rattle.card_members.specs.Tabled.{Tabled}
use Rattle.card_words.proofs.Cards.{carded}
use Rattle.card_words.specs.Cards.{Carded, card_words_lem}
use Rattle.card_refusals.specs.Tests.{CardTested, card_faults, read_total, said_read_lem}
use Rattle.image.proofs.Refusals.{faults_numbered, faults_placed}
use Rattle.image.specs.Image.{image_faults}
use Rattle.image.specs.Sound.{Sound}
use Rattle.laws.proofs.Every.{every_append}
use Rattle.laws.specs.Every.{Every}
use Rattle.limits.proofs.Faults.{Early, early_numbered, early_placeless, fault_early, fault-not, number_of, says_first, says-next, says_none}
use Rattle.limits.proofs.Numbers.{Sized, numbers_early, numbers-numbered, passed, passed_none}
use Rattle.limits.proofs.Outcomes.{refused_first, said_by-some}
use Rattle.limits.specs.Refusal.{said_by}
use Rattle.limits.specs.declared.refusal.Refusal.TheVariants.{Room}
use Rattle.limits.specs.declared.refusal.Refusal.{Refusal}
use Rattle.limits.specs.Said.{Said, fault, number_faults, said, tabled}
use Rattle.limits.specs.declared.Asked.{Asked}
use Rattle.measure.proofs.OnCircle.{empty_on}
use Rattle.measure.specs.Table.{off_circle_lem, rows_of}
use Rattle.refusals.proofs.Refusals.{circle-early, circle-none, circle-tests}
use Rattle.refusals.specs.Refused.{circle_faults}
use Rattle.words.proofs.Indexes.{by_shape, fit-early, fit-tests}
use Rattle.words.specs.Index.{fit_faults}
use Rattle.words.specs.Shape.{shape_ok_lem}
use Rattle.words.specs.Words.{c#, circles#, n#}
use borrow.Author.Tests.{eqb-false, eqb-true, le-ltb, lt-ltb, ltb-false, ne_eqb}
use lib.Dec.{eqb, ltb}
use lib.ListN.{length}
use mathlib.Core.Bool.{Bool, false, true}
use mathlib.Core.List.{List, [], ◌++◌}
use mathlib.Core.Path.{◌∙◌, ◌≡◌, ap, refl, sym}
use native.Mathlib.Omega.{arith}

-- ---- the image
-- where nothing is wrong with it its header and blocks are right
pub image-right : (i : List ℕ) {count : ℕ} → Sound i (image_faults i) 0 0 count → Carded i
image-right i S = carded i (sym S.found)

-- ---- the card
module _ (T : List ℕ) (c : ℕ) (i : List ℕ) where
  -- its header and shape
  abbrev fit : List Said
  fit = fit_faults true (card_words_lem i) (rows_of T c) c

  -- its circles, in the table
  abbrev off : List Said
  off = circle_faults c (circles# (card_words_lem i)) T []

  -- both are early
  fits-early : Every Early fit
  fits-early = fit-early true (card_words_lem i) (rows_of T c) c

  card-early : Every Early (card_faults T c i)
  card-early = every_append Early fit off fits-early (circle-early c (circles# (card_words_lem i)) T [])

  -- header or shape refuses it
  pub by-fit : (r : Refusal) → said_by r ≡ said fit → said_by r ≡ said (card_faults T c i)
  by-fit r e = refused_first r fit off e

  -- they do not, and the circles decide
  pub by-off : {o : ℕ} {s : Said} → (said fit).0 ≡ 0 → o ≡ circles# (card_words_lem i) → s ≡ said (circle_faults c o T []) → s ≡ said (card_faults T c i)
  by-off z e h = h ∙ ap (λ (o : ℕ). said (circle_faults c o T [])) e ∙ says-next fit off (early_numbered fit fits-early) z

-- ---- all of them
-- WITH 0 NOTHING IS WRONG: the table, the image, the card's header and shape, the table's circular columns, and the room of `room` words
pub record Clear (T : List ℕ) (c : ℕ) (i : List ℕ) (room : ℕ) : Type 0 where
  pub table : Sized (length T) c
  pub image : (said (image_faults i)).0 ≡ 0
  pub rows : n# (card_words_lem i) ≡ rows_of T c
  pub columns : c# (card_words_lem i) ≡ c
  pub shape : shape_ok_lem (card_words_lem i) ≡ true
  pub circled : off_circle_lem c (circles# (card_words_lem i)) T ≡ false
  pub space : read_total i ≤ room

module _ (T : List ℕ) (c : ℕ) (i : List ℕ) (room : ℕ) where
  -- what is said
  abbrev says : Said
  says = said_read_lem T c i room

  -- what is asked of numbers: the table's parts
  abbrev asks : Asked
  asks = tabled (length T) c

  -- the table's faults
  abbrev first : List Said
  first = number_faults asks

  -- the card's, and the room's
  abbrev last : List Said
  last = card_faults T c i ++ fault 5 (ltb room (read_total i))

  -- the image's before them
  abbrev next : List Said
  next = image_faults i ++ last

  -- one after the other they decide what is said
  in_turn_lem : said (first ++ next) ≡ says
  unfolding said_read_lem
  in_turn_lem = refl

  -- a refusal whose number and place are said ends it
  refuses : (r : Refusal) → (said_by r).0 ≡ says.0 → (said_by r).1 ≡ says.1 → CardTested T c i room (said_by r).0 (said_by r).1 0
  refuses r e p = record { said = e; placed = p; counted = rw (ne_eqb (said_by r).0 0 (said_by-some r)) }

  -- ---- the returns in the code's order
  -- the table is refused
  pub by-table : (r : Refusal) → said_by r ≡ said first → CardTested T c i room (said_by r).0 (said_by r).1 0
  by-table r e =
      let all = refused_first r first next e ∙ in_turn_lem in
      refuses r (ap (λ (t : Said). t.0) all) (ap (λ (t : Said). t.1) all)

  module _ (z : (said first).0 ≡ 0) where
    -- past the table the others decide
    after_table : said next ≡ says
    after_table = says-next first next (numbers-numbered asks) z ∙ in_turn_lem

    -- the image is wrong
    pub by-image : (r : Refusal) → Sound i (image_faults i) (said_by r).0 (said_by r).1 0 → CardTested T c i room (said_by r).0 (said_by r).1 0
    by-image r S =
        let all = says_first (image_faults i) last (λ e. said_by-some r (S.found ∙ e)) ∙ after_table in
        refuses r (S.found ∙ ap (λ (t : Said). t.0) all) (S.placed ∙ ap (λ (t : Said). t.1) all)

    module _ {count : ℕ} (S : Sound i (image_faults i) 0 0 count) where
      -- past the image the card and the room decide
      after-image : said last ≡ says
      after-image = says-next (image_faults i) last (faults_numbered i) (sym S.found) ∙ after_table

      -- the card is refused
      pub by-card : (r : Refusal) → said_by r ≡ said (card_faults T c i) → CardTested T c i room (said_by r).0 (said_by r).1 0
      by-card r e =
          let all = refused_first r (card_faults T c i) (fault 5 (ltb room (read_total i))) e ∙ after-image in
          refuses r (ap (λ (t : Said). t.0) all) (ap (λ (t : Said). t.1) all)

      module _ (k : (said (card_faults T c i)).0 ≡ 0) where
        -- past the card the room decides
        by-room : {b : Bool} → ltb room (read_total i) ≡ b → said (fault 5 b) ≡ says
        by-room q =
            ap (λ b. said (fault 5 b)) (sym q)
            ∙ says-next (card_faults T c i) (fault 5 (ltb room (read_total i))) (early_numbered (card_faults T c i) (card-early T c i)) k ∙ after-image

        -- it is too short
        pub five : {t : ℕ} → t ≡ read_total i → room < t → CardTested T c i room 5 0 0
        five et h =
            let all = by-room (lt-ltb room (read_total i) (rw (← et) h)) in
            refuses Room (ap (λ (t : Said). t.0) all) (ap (λ (t : Said). t.1) all)

        -- nothing is wrong
        pub none-refused : {t : ℕ} → t ≡ read_total i → t ≤ room → CardTested T c i room 0 0 t
        none-refused et h =
            let all = by-room (le-ltb room (read_total i) (rw (← et) h)) in
            record { said = ap (λ (t : Said). t.0) all; placed = ap (λ (t : Said). t.1) all; counted = et }

  -- a right table says nothing
  right : Sized (length T) c → 0 ≡ (said first).0
  right S = passed_none asks (record { table = S; fit = refl; room = refl; like = refl; some = refl })

  -- ---- none
  pub clear : says.0 ≡ 0 → Clear T c i room
  clear z =
      let t = says_none first next (numbers-numbered asks) (ap number_of in_turn_lem ∙ z) in
      let m = says_none (image_faults i) last (faults_numbered i) t.1 in
      let b = ltb room (read_total i) in
      let k = says_none (card_faults T c i) (fault 5 b) (early_numbered (card_faults T c i) (card-early T c i)) m.1 in
      let s = says_none (fit T c i) (off T c i) (early_numbered (fit T c i) (fits-early T c i)) k.0 in
      let r = fit-tests true (card_words_lem i) (rows_of T c) c s.0 in
      record {
        table = (passed asks t.0).table;
        image = m.0;
        rows = r.1;
        columns = r.2;
        shape = r.3;
        circled = (circle-tests c (circles# (card_words_lem i)) T [] s.1).0;
        space = ltb-false room (read_total i) (fault-not 5 b (omega arith) k.1);
      }

  -- and where nothing is wrong 0 is said, with no place
  pub clear_none : Clear T c i room → (0, 0, 0) ≡ says
  clear_none C =
      let o : ℕ = circles# (card_words_lem i) in
      let k = circle-none c o T [] C.circled (empty_on c o)
      ∙ ap number_of (by-off T c i (sym (by_shape true (card_words_lem i) (rows_of T c) c refl C.rows C.columns (sym C.shape))) refl refl) in
      ap (λ b. said (fault 5 b)) (sym (le-ltb room (read_total i) C.space))
      ∙ says-next (card_faults T c i) (fault 5 (ltb room (read_total i))) (early_numbered (card_faults T c i) (card-early T c i)) (sym k)
      ∙ says-next (image_faults i) last (faults_numbered i) C.image ∙ after_table (sym (right C.table))

  -- over a right table a fault of the image is what is said
  pub said-image : Sized (length T) c → ((said (image_faults i)).0 ≡ 0 → ⊥) → says ≡ said (image_faults i)
  said-image S h = sym (says_first (image_faults i) last h ∙ after_table (sym (right S)))

  -- the card's index is in shape and the table's
  pub clear_tabled : Clear T c i room → Tabled T c i
  clear_tabled C = card_tabled T c i (carded i C.image) C.rows C.columns C.shape

  -- ---- the place
  -- the card's faults and the room's are early
  last_early : Every Early last
  last_early =
      every_append Early (card_faults T c i) (fault 5 (ltb room (read_total i))) (card-early T c i)
      (fault_early 5 (ltb room (read_total i)) (omega arith) refl)

  -- no number but 15 has one
  pub placeless : (says.0 ≡ 15 → ⊥) → says.1 ≡ 0
  placeless h = by_first (eqb (said first).0 0) refl
    where
      -- past the table, by whether the image is wrong
      by_next : said next ≡ says → (b : Bool) → eqb (said (image_faults i)).0 0 ≡ b → says.1 ≡ 0
      by_next e true q =
          let n = says-next (image_faults i) last (faults_numbered i) (eqb-true (said (image_faults i)).0 0 q) in
          ap (λ (t : Said). t.1) (sym (n ∙ e)) ∙ (early_placeless last last_early).0
      by_next e false q =
          let n = says_first (image_faults i) last (eqb-false (said (image_faults i)).0 0 q) in
          ap (λ (t : Said). t.1) (sym (n ∙ e)) ∙ faults_placed i (λ z. h (ap (λ (t : Said). t.0) (sym (n ∙ e)) ∙ z))

      -- by whether the table is
      by_first : (b : Bool) → eqb (said first).0 0 ≡ b → says.1 ≡ 0
      by_first true q =
          by_next (after_table (eqb-true (said first).0 0 q)) (eqb (said (image_faults i)).0 0) refl
      by_first false q =
          ap (λ (t : Said). t.1) (sym (says_first first next (eqb-false (said first).0 0 q) ∙ in_turn_lem))
          ∙ (early_placeless first (numbers_early asks)).0
