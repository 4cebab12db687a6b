-- The three demands, as theorems on what the calls give: an index is accepted where a check of it gave 0, so that no definition of
-- ours stands between the analyst's words and the calls. Assumes nothing.
use Prim.Native.Nat.{◌*◌, ◌+◌, ◌/◌, ◌<◌, ◌^◌, ◌≤◌, min, ℕ}
use Rattle.answers.specs.Records.{made}
use Rattle.answers.specs.declared.Answer.{Answer}
use Rattle.append.proofs.Theorems.{append_accepted, append-headed, append-on, append-sized}
use Rattle.append.specs.Calls.{Appends}
use Rattle.append_rows.proofs.Theorems.{append-rows-accepted, append-rows-headed, append-rows-on, append-rows-sized}
use Rattle.append_rows.specs.Calls.{AppendsRows}
use Rattle.audit.proofs.Contract.{unfound}
use Rattle.audit.proofs.Theorems.{check-exact, check_only, check-placeless}
use Rattle.audit.specs.Calls.{Checks, Passed}
use Rattle.bourascul.proofs.Numbers.{both-parts, last-is, other_number, other_radius_number, passed}
use Rattle.bourascul.proofs.Own.{check-own}
use Rattle.bourascul.proofs.Promises.{answers-exact as records-exact, refused-records}
use Rattle.bourascul.specs.Calls.{ReadsBlock}
use Rattle.bourascul.specs.Recorded.{Recorded}
use Rattle.build.proofs.Theorems.{build-accepted, build-headed}
use Rattle.build.specs.Calls.{Builds}
use Rattle.card.proofs.RoundTrip.{round_trip}
use Rattle.card.proofs.Spoilt.{spoilt-block, spoilt-word}
use Rattle.card.proofs.Theorems.{read-accepted, read-clear, read-headed, read-placed, read_refused as call-refused, read_wide}
use Rattle.card_words.specs.Cards.{card_words_lem}
use Rattle.image.proofs.RoundTrip.{written_ok}
use Rattle.image.proofs.Small.{write_small, write-whole}
use Rattle.image.specs.Below.{Below}
use Rattle.image.specs.Calls.{Writes}
use Rattle.image.specs.Changed.{Moved}
use Rattle.blocks.specs.Blocks.{word_at}
use Rattle.index_space.specs.Fits.{home_bound}
use Rattle.laws.specs.Lists.{has, last, range, tally, times}
use Rattle.limits.proofs.Numbers.{Sized, sized_of}
use Rattle.limits.proofs.Ranges.{both-within}
use Rattle.listing.proofs.Listed.{list_only, node-there, part_none, part-pairs}
use Rattle.listing.specs.Calls.{Lists, listed, lists}
use Rattle.meaning.proofs.Meaning.{accepted-means}
use Rattle.meaning.specs.Conditions.{Conditions}
use Rattle.measure.proofs.OnCircle.{round_rows}
use Rattle.measure.specs.Table.{between, from, off_circle_lem, row, rows_of}
use Rattle.nearest.proofs.Promises.{nearest-counted, nearest-counted-all, nearest-exact as call-exact, nearest-measured, nearest-measured-all, nearest-ranked, nearest-two-tables, same_lent}
use Rattle.nearest.specs.Calls.{Answered, Serves}
use Rattle.nearest.specs.Ranked.{ahead}
use Rattle.nearest_search.specs.Found.{Settled}
use Rattle.nearest_steps.specs.Asked.{NearestAsked, NearestLent, asks}
use Rattle.radius.proofs.Promises.{radius-call-beyond, radius-call-exact, radius-call-two-tables, radius-withdrawn-never}
use Rattle.radius.specs.Calls.{Searched}
use Rattle.rowset.specs.Sets.{is_in_lem}
use Rattle.tree.proofs.Theorems.{one-home}
use Rattle.tree.specs.Check.{Accepted}
use Rattle.tree.specs.Grove.{tree_of}
use Rattle.tree.specs.Homes.{homes}
use Rattle.tree.specs.Nearest.{answers, is_measured, last_distance, measured, remaining}
use Rattle.tree.specs.Widen.{widen}
use Rattle.blocks.specs.Blocks.{word_at}
use Rattle.words.specs.Shape.{shape_ok_lem}
use Rattle.words.specs.Words.{c#, circles#, edition#, n#, words_of_lem}
use borrow.Author.Tests.{ne_eqb}
use lib.Dec.{T, eqb, leb}
use lib.ListN.{drop, get_or, length, replicate, take}
use lib.Seq.{length-take-le, take_at}
use mathlib.Core.Bool.{Bool, cond, false, or-true, true}
use mathlib.Core.List.{List, [], ◌++◌, map}
use mathlib.Core.Logic.{◌↔◌}
use mathlib.Core.Path.{◌∙◌, ◌≡◌, ap, ap₂, refl, subst, sym}
use native.Mathlib.Nat.{mod-add-div, zero-add}
use native.Mathlib.Omega.{arith}

-- ---- DEMAND 1: A REFUSAL GIVES ITS NUMBER, COUNTS OF ZERO OR AN EMPTY PART, AND LEAVES EVERY BUFFER AS IT WAS
-- a refused build
pub build_refused : {t : List ℕ} {c o e m l : ℕ} {room work room' work' : List ℕ} {number words nodes : ℕ} → Builds t c o e m l room work room' work' number words nodes
    → (number ≡ 0 → ⊥) → (words ≡ 0) × (nodes ≡ 0) × (room' ≡ room) × (work' ≡ work)
build_refused {number = number} b k =
    let q = ne_eqb number 0 k in
    (rw q at b.counted.0, rw q at b.counted.1, rw q at b.index, rw q at b.cleared)

-- a check: 10 to 13 are what it found, and clear the workspace as 0 does; all others are refusals
module _ {t : List ℕ} {c : ℕ} {w work work' : List ℕ} {number place second : ℕ} (s : Checks t c w work work' number place second) where
  -- a refusal has no place and leaves the workspace as it was
  pub check-refused : 1 ≤ number → (10 ≤ number → 13 < number) → (place ≡ 0) × (second ≡ 0) × (work' ≡ work)
  check-refused some none =
      let p = check-placeless s none in
      (p.0, p.1, rw (ne_eqb number 0 (λ z. omega arith), unfound number none) at s.cleared)

  -- a fault that the passes find clears the workspace as a success does
  pub check-found : 10 ≤ number → number ≤ 13 → work' ≡ replicate (6 * rows_of t c) 0 ++ drop (6 * rows_of t c) work
  check-found h k = rw (both-within 10 13 number h k, or-true (eqb number 0)) at s.cleared

-- a refused radius search
pub radius_refused : {t : List ℕ} {c : ℕ} {w q : List ℕ} {r : ℕ} {set before after : List ℕ} {number in# met : ℕ} → Searched t c w q r set before after number in# met
    → (number ≡ 0 → ⊥) → (in# ≡ 0) × (met ≡ 0) × (after ≡ before)
radius_refused s = s.refused

-- a refused nearest search
pub nearest_refused : {asked : NearestAsked} {room : ℕ} {lent lent' : NearestLent} {number given met : ℕ} → Answered asked room lent lent' number given met
    → (number ≡ 0 → ⊥) → (given ≡ 0) × (met ≡ 0) × (lent' ≡ lent)
nearest_refused s = s.refused

-- a refused nearest search with records
pub answers_refused : {asked : NearestAsked} {as₀ as₁ : List Answer} {lent lent' : NearestLent} {number given met : ℕ}
    → Recorded asked as₀ as₁ lent lent' number given met → (number ≡ 0 → ⊥) → (as₁ ≡ as₀) × ((given ≡ 0) × (met ≡ 0) × (lent' ≡ lent))
answers_refused s k = (refused-records s k, s.plain.refused k)

-- a refused writing of an image
pub write_refused : {w before after : List ℕ} {number blocks : ℕ} → Writes w before after number blocks → (number ≡ 0 → ⊥) → (blocks ≡ 0) × (after ≡ before)
write_refused {number = number} s k = (rw (ne_eqb number 0 k) at s.counted, rw (ne_eqb number 0 k) at s.lent)

-- a refused reading of one: 15 names a block, no other number does
pub read_refused : {t : List ℕ} {c : ℕ} {i before after : List ℕ} {number place words : ℕ} → ReadsBlock t c i before after number place words
    → (number ≡ 0 → ⊥) → (words ≡ 0) × (after ≡ before) × ((number ≡ 15 → ⊥) → place ≡ 0)
read_refused s k =
    let p = call-refused s.reads k in
    (p.0, p.1, λ h. omega (arith, s.named, read-placed s.reads h))

-- a listing of nothing
pub list_refused : {w : List ℕ} {k start long : ℕ} → Lists w k start long → listed w k ≡ [] → (start ≡ 0) × (long ≡ 0)
list_refused {w} {k} {start} {long} p z = go (lists w k) refl
  where
    go : (b : Bool) → lists w k ≡ b → (start ≡ 0) × (long ≡ 0)
    go false e = list_only p (part_none w k e refl refl)
    go true e =
        let S = node-there w k e in
        absurd (omega (arith, (list_only p (part-pairs w k e refl refl)).1, p.whole, ap length z, (S.0.node k S.1).some))

-- ---- DEMAND 2: THE CHECK IS EXACT, THE BUILD PASSES IT, THE SEARCHES ARE EXACT, AND AN IMAGE KEEPS THE INDEX
-- a check gives 0 exactly where no refusal meets it, the header is the table's, and the words, the shape and every part of the full check hold
pub check_accepts : {t : List ℕ} {c : ℕ} {w work work' : List ℕ} {number place second : ℕ} → Checks t c w work work' number place second
    → (number ≡ 0) ↔ Passed t c w work
check_accepts s = check-exact s

-- words with the table's own header and the circles o, on which it stands, that the full check accepts with it: they pass, in a workspace that is
-- long enough
own_passes : {t : List ℕ} {c o : ℕ} {v work work' : List ℕ} {number place second : ℕ} → Sized (length t) c → (n# v ≡ rows_of t c) × (c# v ≡ c)
    → edition# v ≡ 2 → circles# v ≡ o → off_circle_lem c o t ≡ false → Accepted (between t c o) v → 6 * rows_of t c ≤ length work
    → Checks t c v work work' number place second → (number ≡ 0) × (place ≡ 0) × (second ≡ 0)
own_passes {t} {c} {v = v} fine same two round on a enough s =
    let z = (check-exact s).1 (record {
      columns = (fine.some, fine.few);
      multiple = fine.whole;
      few = fine.rows;
      room = enough;
      same_rows = same.0;
      same_columns = same.1;
      edition = two;
      circled = subst (λ (o : ℕ). off_circle_lem c o t ≡ false) (sym round) on;
      accepted = subst (λ (o : ℕ). Accepted (between t c o) v) (sym round) a;
    }) in
    let p = check-placeless s (λ u. omega arith) in
    (z, p.0, p.1)

-- what a build wrote does
pub build_passes : {t : List ℕ} {c o e m l : ℕ} {room work room' work' work₂ work₃ : List ℕ} {words nodes number place second : ℕ}
    → Builds t c o e m l room work room' work' 0 words nodes → 6 * rows_of t c ≤ length work₂
    → Checks t c (take words room') work₂ work₃ number place second → (number ≡ 0) × (place ≡ 0) × (second ≡ 0)
build_passes {t} {c} {o} {e} {m} {l} {room} {work} b enough s =
    let h = build-headed t c o e m l room work b refl in
    own_passes h.0 (h.1, h.2) h.4 h.5 h.6 (build-accepted t c o e m l room work b refl) enough s

-- where a check gave 0 of an index with the table before a row came, what an append wrote passes with the table that has it
pub append_passes : {t : List ℕ} {c : ℕ} {w room work room' work' work₀ work₁ work₂ work₃ : List ℕ} {words nodes place₀ second₀ number place second : ℕ}
    → Checks (take (c * n# w) t) c w work₀ work₁ 0 place₀ second₀ → Appends t c w room work room' work' 0 words nodes → 6 * rows_of t c ≤ length work₂
    → Checks t c (take words room') work₂ work₃ number place second → (number ≡ 0) × (place ≡ 0) × (second ≡ 0)
append_passes ok b enough s =
    let a = (passed ok).accepted in
    let h = append-headed b refl a in
    own_passes (append-sized b refl) (h.0, h.1) h.4 h.6 (append-on b refl) (append_accepted b refl a) enough s

-- and so it is where several came
pub append_rows_passes : {t : List ℕ} {c : ℕ} {w room work room' work' work₀ work₁ work₂ work₃ : List ℕ}
    {words nodes place₀ second₀ number place second : ℕ} → Checks (take (c * n# w) t) c w work₀ work₁ 0 place₀ second₀
    → AppendsRows t c w room work room' work' 0 words nodes → 6 * rows_of t c ≤ length work₂
    → Checks t c (take words room') work₂ work₃ number place second → (number ≡ 0) × (place ≡ 0) × (second ≡ 0)
append_rows_passes ok b enough s =
    let a = (passed ok).accepted in
    let h = append-rows-headed b refl a in
    own_passes (append-rows-sized b refl) (h.0, h.1) h.4 h.6 (append-rows-on b refl) (append-rows-accepted b refl a) enough s

-- an index of which a check gave 0
module _ {t : List ℕ} {c : ℕ} {w work₀ work₁ : List ℕ} {place second : ℕ} (ok : Checks t c w work₀ work₁ 0 place second) where
  -- a radius search marks exactly the rows within the radius that are not withdrawn
  pub radius-exact : {q : List ℕ} {r : ℕ} {set before after : List ℕ} {in# met : ℕ} → Searched t c w q r set before after 0 in# met
      → (i : ℕ) → i < n# w → (2 ≤ get_or after i 0) ↔ ((is_in_lem set i ≡ false) × (from t c (circles# w) q i ≤ r))
  radius-exact s = radius-call-exact s refl (passed ok).accepted

  -- the table serves itself
  pub serves-own : {q set : List ℕ} {wanted room : ℕ} {lent lent' : NearestLent} {number given met : ℕ}
      → Answered (asks t c w q wanted set) room lent lent' number given met → number ≡ 0 → Serves (asks t c w q wanted set) t
  serves-own s done =
      let P = passed ok in
      let whole : length t ≡ c * rows_of t c =
      sym (mod-add-div (length t) c) ∙ ap (λ (k : ℕ). k + c * rows_of t c) P.multiple ∙ zero-add (c * rows_of t c) in
      record { rows = sym P.same_rows; round = round_rows t c (circles# w) whole P.circled; accepted = P.accepted; agree = λ i h m. refl }

  -- a nearest search gives the first of all rows that are not withdrawn, by distance, then row number
  pub nearest-exact : {q set : List ℕ} {wanted room : ℕ} {lent lent' : NearestLent} {given met : ℕ}
      → Answered (asks t c w q wanted set) room lent lent' 0 given met → Settled (from t c (circles# w) q) (is_in_lem set) w wanted lent lent' given
  nearest-exact s = call-exact s refl (passed ok).accepted

  -- and as records the same
  pub answers-exact : {q set : List ℕ} {wanted : ℕ} {as₀ as₁ : List Answer} {lent lent' : NearestLent} {given met : ℕ}
      → Recorded (asks t c w q wanted set) as₀ as₁ lent lent' 0 given met
      → as₁ ≡ map (λ a. made a.0 a.1) (answers (from t c (circles# w) q) (is_in_lem set) (n# w) wanted) ++ drop given as₀
  answers-exact s = records-exact s refl (passed ok).accepted

-- an index in shape that was written, and the written blocks read over a table of its rows and columns, which stands on its circles, into a room that is
-- long enough
module _ {t : List ℕ} {c : ℕ} {w before after room room' : List ℕ} {blocks number place words : ℕ} (fine : Sized (length t) c) (rows : n# w ≡ rows_of t c)
    (columns : c# w ≡ c) (shape : shape_ok_lem w ≡ true) (on : off_circle_lem c (circles# w) t ≡ false) (s : Writes w before after 0 blocks) (low : Below (2 ^ 32) w) (enough : words_of_lem w ≤ length room)
    (r : ReadsBlock t c (take (512 * blocks) after) room room' number place words) where
  -- it is the same, word for word
  pub image-same : (number ≡ 0) × (place ≡ 0) × (words ≡ words_of_lem w) × (take words room' ≡ take (words_of_lem w) w)
  image-same =
      let d = round_trip fine rows columns shape on low s enough r.reads in
      let f = take_at (take (words_of_lem w) w) (drop (words_of_lem w) room) (words_of_lem w) (length-take-le (words_of_lem w) w (write-whole s)) in
      (d.0, omega (arith, r.named, read-placed r.reads (λ e. omega (arith, d.0))), d.1, ap₂ take d.1 d.2 ∙ f)

  -- so that a check says the same of both, whatever was lent behind the index
  pub image-checked : {work work₁ work₂ : List ℕ} {n₁ p₁ s₁ n₂ p₂ s₂ : ℕ} → Checks t c w work work₁ n₁ p₁ s₁
      → Checks t c (take words room') work work₂ n₂ p₂ s₂ → (n₁ ≡ n₂) × (p₁ ≡ p₂) × (s₁ ≡ s₂) × (work₁ ≡ work₂)
  image-checked {work} {work₂ = work₂} {n₂ = n₂} {p₂} {s₂} a b =
      check_only a (check-own w (written_ok w (length before) (sym s.said)) shape
      (subst (λ (v : List ℕ). Checks t c v work work₂ n₂ p₂ s₂) image-same.3 b))

-- a card of either edition, read with 0 over a table: where its index is accepted, a check of what was read gives 0, in a workspace that is long enough
pub card_passes : {t : List ℕ} {c : ℕ} {i before after : List ℕ} {place words : ℕ} → ReadsBlock t c i before after 0 place words
    → Accepted (between t c (circles# (card_words_lem i))) (card_words_lem i) → {work work₁ : List ℕ} {number place₁ second : ℕ} → 6 * rows_of t c ≤ length work
    → Checks t c (take words after) work work₁ number place₁ second → (number ≡ 0) × (place₁ ≡ 0) × (second ≡ 0)
card_passes {t} {c} s ok enough k =
    let h = read-headed s.reads refl in
    let S = (read-clear s.reads refl).table in
    let y = (check-exact k).1 (record {
      columns = (S.some, S.few);
      multiple = S.whole;
      few = S.rows;
      room = enough;
      same_rows = h.1;
      same_columns = h.2;
      edition = h.0;
      circled = subst (λ (o : ℕ). off_circle_lem c o t ≡ false) (sym h.3) (read-clear s.reads refl).circled;
      accepted = read-accepted s.reads refl ok;
    }) in
    let q = check-placeless k (λ u. omega arith) in
    (y, q.0, q.1)

-- and a card of edition 1 is read as the index that widening gives
pub card_widened : {t : List ℕ} {c : ℕ} {i before after : List ℕ} {place words : ℕ} → ReadsBlock t c i before after 0 place words
    → edition# (card_words_lem i) ≡ 1 → take words after ≡ widen (between t c (circles# (card_words_lem i))) (card_words_lem i)
card_widened s = read_wide s.reads refl

-- 01, The image: an index was written; what is read over a right table is i, as many blocks, of which something is not as it was written
module _ {t : List ℕ} {c : ℕ} {w before after : List ℕ} {blocks : ℕ} (fine : Sized (length t) c) (s : Writes w before after 0 blocks)
    (low : Below (2 ^ 32) w) {i : List ℕ} (size : length i ≡ 512 * blocks) {room room' : List ℕ} {number place words : ℕ}
    (r : ReadsBlock t c i room room' number place words) where
  -- any one changed word is found: where of all words just word q differs, 15 names its block, and nothing is read
  pub word-found : Below 256 i → (q : ℕ) → q < 128 * blocks
      → ((j : ℕ) → j < 128 * blocks → (j ≡ q → ⊥) → word_at (take (512 * blocks) after) (4 * j) ≡ word_at i (4 * j))
      → (word_at (take (512 * blocks) after) (4 * q) ≡ word_at i (4 * q) → ⊥) → (number ≡ 15) × (place ≡ q / 128) × (words ≡ 0) × (room' ≡ room)
  word-found bytes q h same differs =
      let z = spoilt-word fine low s i size r.reads bytes q h same differs in
      (z.0, omega (arith, z.1, r.named, write_small s), z.2, z.3)

  -- and so is any block that stands at another's place: block b of i is block a of what was written
  pub block-found : (a b : ℕ) → a < blocks → b < blocks → Moved (take (512 * blocks) after) i a b
      → (number ≡ 15) × (place ≤ b) × (words ≡ 0) × (room' ≡ room)
  block-found a b ha hb moved =
      let z = spoilt-block fine low s i size r.reads a b ha hb moved in
      (z.0, omega (arith, z.1, r.named), z.2, z.3)

-- a check gives 0 exactly where the table is right, the workspace long enough, the header the table's and edition 2, no circular column
-- of the table holds 3,600 or more, and 01's conditions hold
pub check_means : {t : List ℕ} {c : ℕ} {w work work' : List ℕ} {number place second : ℕ} → Checks t c w work work' number place second
    → (number ≡ 0) ↔ (Sized (length t) c × (6 * rows_of t c ≤ length work) × (n# w ≡ rows_of t c) × (c# w ≡ c) × (edition# w ≡ 2)
    × (off_circle_lem c (circles# w) t ≡ false) × Conditions (between t c (circles# w)) w)
check_means {t} {c} {w} s = (
  λ z.
      let P = (check-exact s).0 z in (
        sized_of (length t) c P.columns P.multiple P.few,
        P.room,
        P.same_rows,
        P.same_columns,
        P.edition,
        P.circled,
        (accepted-means (between t c (circles# w)) w).0 P.accepted,
      ),
  λ m. (check-exact s).1 (record {
    columns = (m.0.some, m.0.few);
    multiple = m.0.whole;
    few = m.0.rows;
    room = m.1;
    same_rows = m.2;
    same_columns = m.3;
    edition = m.4;
    circled = m.5;
    accepted = (accepted-means (between t c (circles# w)) w).1 m.6;
  }),
)

-- ---- DEMAND 3: WHICH ROWS A NEAREST SEARCH MEASURES, AND THAT ITS OUTCOME RESTS ON THESE ALONE
module _ {t : List ℕ} {c : ℕ} {w work₀ work₁ : List ℕ} {place second : ℕ} (ok : Checks t c w work₀ work₁ 0 place second) where
  -- none twice: each row has exactly one home
  pub home-once : (q : List ℕ) (i : ℕ) → i < n# w → times i (map (λ h. h.0) (homes (from t c (circles# w) q) (tree_of w))) ≡ 1
  home-once q i h = one-home (between t c (circles# w)) w (passed ok).accepted (from t c (circles# w) q) i h

  module _ {q set : List ℕ} {wanted room : ℕ} {lent lent' : NearestLent} {given met : ℕ}
      (s : Answered (asks t c w q wanted set) room lent lent' 0 given met) where
    -- a row is measured exactly if its home bound is at most the last distance in the answer
    pub measured-by-home : wanted ≤ remaining (is_in_lem set) (n# w) → (i : ℕ) → i < n# w
        → T (is_measured (get_or lent'.how i 0)) ↔ (home_bound w (from t c (circles# w) q) i ≤ last_distance (answers (from t c (circles# w) q) (is_in_lem set) (n# w) wanted))
    measured-by-home = nearest-measured s refl (passed ok).accepted

    -- that is the last distance given
    pub last-given : last (take given lent'.distances) ≡ last_distance (answers (from t c (circles# w) q) (is_in_lem set) (n# w) wanted)
    last-given = last-is (nearest-exact ok s)

    -- every row, if fewer remain than are wanted
    pub measured-all : remaining (is_in_lem set) (n# w) < wanted → (i : ℕ) → i < n# w → T (is_measured (get_or lent'.how i 0))
    measured-all = nearest-measured-all s refl (passed ok).accepted

    -- another table that differs only in rows not measured gets the same outcome, whether or not the index fits it, from a call that is not refused
    pub same-elsewhere : {t₂ : List ℕ} {lent₂ lent₂' : NearestLent} {room₂ given₂ met₂ : ℕ}
        → Answered (asks t₂ c w q wanted set) room₂ lent₂ lent₂' 0 given₂ met₂
        → ((i : ℕ) → i < n# w → T (is_measured (get_or lent'.how i 0)) → row t c i ≡ row t₂ c i)
        → (given ≡ given₂) × (met ≡ met₂) × (take given lent'.rows ≡ take given lent₂'.rows)
        × (take given lent'.distances ≡ take given lent₂'.distances) × (take (n# w) lent'.how ≡ take (n# w) lent₂'.how)
    same-elsewhere s₂ agree = nearest-two-tables s refl (passed ok).accepted s₂ refl agree

    -- where it is as long and its call is lent the same, all is the same, the number and every buffer; but one that does not stand on the circle is
    -- refused with 19
    pub same_outcome : {t₂ : List ℕ} {lent₂ : NearestLent} {number₂ given₂ met₂ : ℕ}
        → Answered (asks t₂ c w q wanted set) room lent lent₂ number₂ given₂ met₂ → length t ≡ length t₂
        → ((i : ℕ) → i < n# w → T (is_measured (get_or lent'.how i 0)) → row t c i ≡ row t₂ c i)
        → (off_circle_lem c (circles# w) t₂ ≡ false → (0 ≡ number₂) × (given ≡ given₂) × (met ≡ met₂) × (lent' ≡ lent₂))
        × (off_circle_lem c (circles# w) t₂ ≡ true → number₂ ≡ 19)
    same_outcome {t₂} {lent₂} {given₂ = given₂} s₂ e agree =
        let number = other_number s s₂ e in (
          λ on.
              let z = sym (number ∙ ap (λ (b : Bool). cond b 19 0) on) in
              let E = nearest-two-tables s refl (passed ok).accepted s₂ (sym z) agree in
              let b = s.beyond refl in
              let b₂ = s₂.beyond (sym z) in
              let same : (l : List ℕ) → drop given₂ l ≡ drop given l = λ l. ap (λ (k : ℕ). drop k l) (sym E.0) in
              let rows = both-parts given lent'.rows lent₂.rows E.2 (b.0 ∙ sym (same lent.rows) ∙ sym b₂.0 ∙ same lent₂.rows) in
              let distances = both-parts given lent'.distances lent₂.distances E.3
              (b.1 ∙ sym (same lent.distances) ∙ sym b₂.1 ∙ same lent₂.distances) in
              let bytes = both-parts (n# w) lent'.how lent₂.how E.4 (b.2 ∙ sym b₂.2) in
              (z, E.0, E.1, same_lent lent' lent₂ rows distances bytes (s.cleared refl ∙ sym (s₂.cleared (sym z)))),
          λ off. number ∙ ap (λ (b : Bool). cond b 19 0) off,
        )

-- the count is the number of rows so marked
pub measured-counted : {t : List ℕ} {c : ℕ} {w q set : List ℕ} {wanted room : ℕ} {lent lent' : NearestLent} {given met : ℕ}
    → Answered (asks t c w q wanted set) room lent lent' 0 given met → met ≡ measured (take (n# w) lent'.how)
measured-counted s = s.counted refl

-- ---- DEMANDS 2 AND 3 OF A NEAREST SEARCH IN HER WORDS, AND DEMAND 3 OF A RADIUS SEARCH
module _ {t : List ℕ} {c : ℕ} {w work₀ work₁ : List ℕ} {place second : ℕ} (ok : Checks t c w work₀ work₁ 0 place second) where
  module _ {q set : List ℕ} {wanted room : ℕ} {lent lent' : NearestLent} {given met : ℕ}
      (s : Answered (asks t c w q wanted set) room lent lent' 0 given met) where
    -- a row is among the answers exactly if it is not withdrawn and fewer of those that are not come before it, by distance and then row number, than are
    -- wanted
    pub answer-exactly : (i : ℕ) → i < n# w → T (has i (take given lent'.rows)) ↔ ((is_in_lem set i ≡ false) × (ahead (from t c (circles# w) q) (is_in_lem set) (n# w) i < wanted))
    answer-exactly = nearest-ranked s refl (passed ok).accepted

    -- the count is the number of rows whose home bound is at most the last distance given
    pub measured-number : wanted ≤ remaining (is_in_lem set) (n# w) → met ≡ tally (λ i. leb (home_bound w (from t c (circles# w) q) i) (last (take given lent'.distances))) (range 0 (n# w))
    measured-number few =
        nearest-counted s refl (passed ok).accepted few
        ∙ ap (λ (D : ℕ). tally (λ i. leb (home_bound w (from t c (circles# w) q) i) D) (range 0 (n# w))) (sym (last-given ok s))

    -- and the number of all rows, if fewer remain than are wanted
    pub measured-every : remaining (is_in_lem set) (n# w) < wanted → met ≡ n# w
    measured-every = nearest-counted-all s refl (passed ok).accepted

  module _ {q : List ℕ} {r : ℕ} {set before after : List ℕ} {in# met : ℕ} (s : Searched t c w q r set before after 0 in# met) where
    -- another table that differs only in rows not measured gets the same how-bytes and counts from a radius search, whether or not the index fits it,
    -- from a call that is not refused
    pub radius-elsewhere : {t₂ before₂ after₂ : List ℕ} {in₂ met₂ : ℕ} → Searched t₂ c w q r set before₂ after₂ 0 in₂ met₂
        → ((i : ℕ) → i < n# w → T (is_measured (get_or after i 0)) → row t c i ≡ row t₂ c i)
        → (take (n# w) after ≡ take (n# w) after₂) × (in# ≡ in₂) × (met ≡ met₂)
    radius-elsewhere s₂ agree = radius-call-two-tables s refl (passed ok).accepted s₂ refl agree

    -- where it is as long and its call is lent the same, all is the same, the number and every how-byte; but one that does not stand on the circle is
    -- refused with 19
    pub radius-outcome : {t₂ after₂ : List ℕ} {number₂ in₂ met₂ : ℕ} → Searched t₂ c w q r set before after₂ number₂ in₂ met₂ → length t ≡ length t₂
        → ((i : ℕ) → i < n# w → T (is_measured (get_or after i 0)) → row t c i ≡ row t₂ c i)
        → (off_circle_lem c (circles# w) t₂ ≡ false → (0 ≡ number₂) × (in# ≡ in₂) × (met ≡ met₂) × (after ≡ after₂))
        × (off_circle_lem c (circles# w) t₂ ≡ true → number₂ ≡ 19)
    radius-outcome {after₂ = after₂} s₂ e agree =
        let number = other_radius_number s s₂ e in (
          λ on.
              let z = sym (number ∙ ap (λ (b : Bool). cond b 19 0) on) in
              let E = radius-call-two-tables s refl (passed ok).accepted s₂ (sym z) agree in
              (z, E.1, E.2, both-parts (n# w) after after₂ E.0 (radius-call-beyond s refl ∙ sym (radius-call-beyond s₂ (sym z)))),
          λ off. number ∙ ap (λ (b : Bool). cond b 19 0) off,
        )

    -- a withdrawn row is not in, on any index
    pub radius-never : (i : ℕ) → is_in_lem set i ≡ true → get_or after i 0 ≤ 1
    radius-never = radius-withdrawn-never s refl
