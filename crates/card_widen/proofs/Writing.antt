-- The widened words written one node and one position at a time. They are those of any index w, and the numbers that are written are told by
-- equations: where w was read from does not matter. Assumes nothing.
use Prim.Native.Nat.{◌*◌, ◌+◌, ◌-◌, ◌≤◌, ℕ}
use Rattle.card_top.specs.Header.{top_of}
use Rattle.card_widen.specs.Parts.{nodes_to, pairs_to, wide_long, with_nodes, with_pairs, with_wide}
use Rattle.laws.proofs.Joins.{each_append}
use Rattle.laws.proofs.Lists.{map-append}
use Rattle.laws.proofs.Parts.{put_more, store_more}
use Rattle.laws.proofs.Ranges.{range_append, range_length}
use Rattle.laws.specs.Lists.{each, range}
use Rattle.tree.proofs.Good.{pairs-length}
use Rattle.tree.proofs.Widened.{widen-length}
use Rattle.tree.proofs.Written.{each_words}
use Rattle.tree.specs.Check.{nearest#}
use Rattle.tree.specs.Encode.{node_words, pair_words}
use Rattle.tree.specs.Widen.{widen, widened}
use Rattle.words.specs.Words.{nodes#, child#, count#, dist#, n#, radius#, row#, start#}
use borrow.Rule.Slice.PartMut.{mid_of, put_mid}
use lib.ListN.{drop, length, length-append, length-map, set}
use mathlib.Core.List.{List, [], ◌++◌, ◌∷◌, append_assoc, map}
use mathlib.Core.Path.{◌∙◌, ◌≡◌, ap, ap₂, refl, sym}
use native.Mathlib.Nat.{zero-add}
use native.Mathlib.Omega.{arith}

-- one number more
range_last : (k : ℕ) → range 0 (k + 1) ≡ range 0 k ++ k ∷ []
range_last k = range_append 0 k 1 ∙ ap (λ j. range 0 k ++ j ∷ []) (zero-add k)

-- ---- the nodes
module _ (d : ℕ → ℕ → ℕ) (w : List ℕ) where
  -- none is written
  nodes-none : nodes_to d w 0 ≡ []
  unfolding nodes_to
  nodes-none = refl

  -- one more
  nodes-more : (k : ℕ) → nodes_to d w (k + 1) ≡ nodes_to d w k ++ node_words 2 (widened d w k)
  unfolding nodes_to
  nodes-more k =
      ap (λ l. each (node_words 2) (map (widened d w) l)) (range_last k)
      ∙ ap (each (node_words 2)) (map-append (widened d w) (range 0 k) (k ∷ []))
      ∙ each_append (node_words 2) (map (widened d w) (range 0 k)) (widened d w k ∷ [])

  -- five words each
  nodes_long : (k : ℕ) → length (nodes_to d w k) ≡ 5 * k
  unfolding nodes_to
  nodes_long k =
      let n : length (map (widened d w) (range 0 k)) ≡ k = length-map (range 0 k) (widened d w) ∙ range_length 0 k in
      omega (arith, each_words 2 (map (widened d w) (range 0 k)) (omega arith, omega arith), n)

  -- k nodes are written
  pub record Noded (part₀ part : List ℕ) (k : ℕ) : Type 0 where
    pub words : part ≡ nodes_to d w k ++ drop (5 * k) part₀
    pub same : length part ≡ length part₀

  -- before any
  pub noded-start : (part : List ℕ) → Noded part part 0
  noded-start part = record { words = sym (ap (λ l. l ++ part) nodes-none); same = refl }

  -- one more, by its numbers as they are read
  pub noded-step : {part₀ part ys : List ℕ} {k s n c r i : ℕ} → Noded part₀ part k → 5 * k + 5 ≤ length part₀
      → ys ≡ s ∷ n ∷ c ∷ r ∷ i ∷ drop 5 (mid_of (5 * k) (length part - 5 * k) part)
      → s ≡ start# w k → n ≡ count# w k → c ≡ child# w k → r ≡ radius# w k → i ≡ nearest# d w k
      → length (put_mid (5 * k) (length part - 5 * k) part ys) ≡ length part
      → Noded part₀ (put_mid (5 * k) (length part - 5 * k) part ys) (k + 1)
  noded-step {part₀} {part} {ys} {k} {s} {n} {c} {r} {i} N fits e es en ec er ei long =
      let new : List ℕ = node_words 2 (widened d w k) in
      let mid : List ℕ = mid_of (5 * k) (length part - 5 * k) part in
      let f : ys ≡ new ++ drop 5 mid =
      e ∙ ap₂ (λ (a b : ℕ). a ∷ b ∷ c ∷ r ∷ i ∷ drop 5 mid) es en ∙ ap₂ (λ (a b : ℕ). start# w k ∷ count# w k ∷ a ∷ b ∷ i ∷ drop 5 mid) ec er
      ∙ ap (λ (a : ℕ). start# w k ∷ count# w k ∷ child# w k ∷ radius# w k ∷ a ∷ drop 5 mid) ei in
      let up : 5 * k + 5 ≡ 5 * (k + 1) = omega arith in
      record {
        words = put_more (nodes_to d w k) new part₀ part ys (5 * k) 5 (nodes_long k) (omega (arith, N.same)) N.words f
            ∙ ap₂ (λ (l : List ℕ) (j : ℕ). l ++ drop j part₀) (sym (nodes-more k)) up;
        same = long ∙ N.same;
      }

  -- all N nodes
  pub noded-done : {part₀ part : List ℕ} {k : ℕ} → Noded part₀ part k → k ≡ nodes# w → part ≡ with_nodes d w part₀
  noded-done {part₀} N e = N.words ∙ ap (λ (k : ℕ). nodes_to d w k ++ drop (5 * k) part₀) e

-- ---- the positions
module _ (w : List ℕ) where
  -- none is written
  pairs-none : pairs_to w 0 ≡ []
  unfolding pairs_to
  pairs-none = refl

  -- one more
  pairs-more : (p : ℕ) → pairs_to w (p + 1) ≡ pairs_to w p ++ row# w p ∷ dist# w p ∷ []
  unfolding pairs_to
  pairs-more p =
      let f : ℕ → ℕ × ℕ = λ q. (row# w q, dist# w q) in
      ap (λ l. each pair_words (map f l)) (range_last p) ∙ ap (each pair_words) (map-append f (range 0 p) (p ∷ []))
      ∙ each_append pair_words (map f (range 0 p)) (f p ∷ [])

  -- two words each
  pairs-two : (p : ℕ) → length (pairs_to w p) ≡ 2 * p
  unfolding pairs_to
  pairs-two p =
      let f : ℕ → ℕ × ℕ = λ q. (row# w q, dist# w q) in
      let n : length (map f (range 0 p)) ≡ p = length-map (range 0 p) f ∙ range_length 0 p in
      omega (arith, pairs-length (map f (range 0 p)), n)

  -- p positions are written
  pub record Placed (part₀ part : List ℕ) (p : ℕ) : Type 0 where
    pub words : part ≡ pairs_to w p ++ drop (2 * p) part₀
    pub same : length part ≡ length part₀

  -- before any
  pub placed-start : (part : List ℕ) → Placed part part 0
  placed-start part = record { words = sym (ap (λ l. l ++ part) pairs-none); same = refl }

  -- one more, by its numbers as they are read
  pub placed-step : {part₀ part : List ℕ} {p r s : ℕ} → Placed part₀ part p → 2 * p + 2 ≤ length part₀ → r ≡ row# w p → s ≡ dist# w p
      → length (set (set part (2 * p) r) (2 * p + 1) s) ≡ length part
      → Placed part₀ (set (set part (2 * p) r) (2 * p + 1) s) (p + 1)
  placed-step {part₀} {part} {p} {r} {s} P fits er es long =
      let A : List ℕ = pairs_to w p in
      let one = store_more A part₀ part (2 * p) r (pairs-two p) (omega arith) P.words in
      let l : length (A ++ (r ∷ [])) ≡ 2 * p + 1 = length-append A (r ∷ []) ∙ omega (arith, pairs-two p) in
      let two = store_more (A ++ (r ∷ [])) part₀ (set part (2 * p) r) (2 * p + 1) s l (omega arith) one in
      let up : 2 * p + 1 + 1 ≡ 2 * (p + 1) = omega arith in
      let front : (A ++ (r ∷ [])) ++ (s ∷ []) ≡ pairs_to w (p + 1) =
      append_assoc A (r ∷ []) (s ∷ []) ∙ ap₂ (λ (a b : ℕ). A ++ a ∷ b ∷ []) er es ∙ sym (pairs-more p) in
      record { words = two ∙ ap₂ (λ (l : List ℕ) (j : ℕ). l ++ drop j part₀) front up; same = long ∙ P.same }

  -- all n positions
  pub placed-done : {part₀ part : List ℕ} {p : ℕ} → Placed part₀ part p → p ≡ n# w → part ≡ with_pairs w part₀
  placed-done {part₀} P e = P.words ∙ ap (λ (p : ℕ). pairs_to w p ++ drop (2 * p) part₀) e

-- ---- the whole
module _ (d : ℕ → ℕ → ℕ) (w : List ℕ) where
  -- THE WIDENED INDEX HAS 8 + 5N + 2n WORDS
  pub widen-long : length (widen d w) ≡ wide_long w
  unfolding widen
  widen-long = widen-length d w

  -- header, nodes and positions, one after the other
  widen-parts : (top_of w ++ nodes_to d w (nodes# w)) ++ pairs_to w (n# w) ≡ widen d w
  unfolding widen nodes_to pairs_to
  widen-parts = append_assoc (top_of w) (nodes_to d w (nodes# w)) (pairs_to w (n# w))

  -- the header stands in the room, behind it come the nodes from word a on, and behind these the positions from word b on
  pub filled : (room room₁ room₂ : List ℕ) {room₃ ns ps : List ℕ} {a b : ℕ} → wide_long w ≤ length room
      → room₁ ≡ top_of w ++ drop 8 room → a ≡ 8
      → ns ≡ with_nodes d w (mid_of a (length room₁ - a) room₁) → room₂ ≡ put_mid a (length room₁ - a) room₁ ns
      → b ≡ 8 + 5 * nodes# w
      → ps ≡ with_pairs w (mid_of b (length room₂ - b) room₂) → room₃ ≡ put_mid b (length room₂ - b) room₂ ps
      → length room₁ ≡ length room → length room₂ ≡ length room → room₃ ≡ with_wide d w room
  filled room room₁ room₂ {room₃} {ns} {ps} {a} {b} fits e₁ ea en e₂ eb ep e₃ l₁ l₂ =
      let A : List ℕ = top_of w ++ nodes_to d w (nodes# w) in
      let la : length A ≡ 8 + 5 * nodes# w = length-append (top_of w) (nodes_to d w (nodes# w)) ∙ ap (λ (k : ℕ). 8 + k) (nodes_long d w (nodes# w)) in
      let top : length (top_of w) ≡ a = sym ea in
      let one : room₂ ≡ A ++ drop (a + 5 * nodes# w) room =
      e₂ ∙ put_more (top_of w) (nodes_to d w (nodes# w)) room room₁ ns a (5 * nodes# w) top (omega arith)
      (e₁ ∙ ap (λ (k : ℕ). top_of w ++ drop k room) (sym ea)) en in
      let at : a + 5 * nodes# w ≡ b = omega arith in
      let two : room₃ ≡ (A ++ pairs_to w (n# w)) ++ drop (b + 2 * n# w) room =
      e₃ ∙ put_more A (pairs_to w (n# w)) room room₂ ps b (2 * n# w) (la ∙ sym eb) (omega arith) (one ∙ ap (λ (k : ℕ). A ++ drop k room) at) ep in
      two ∙ ap₂ (λ (l : List ℕ) (k : ℕ). l ++ drop k room) widen-parts (ap (λ (b : ℕ). b + 2 * n# w) eb)
