-- What encode writes is read back, and is in shape. Assumes nothing.
use Prim.Native.Nat.{◌*◌, ◌+◌, ◌<◌, ◌≤◌, suc, zero, ℕ}
use Rattle.laws.proofs.Every.{all_of, every_of}
use Rattle.laws.proofs.Tests.{and_l, and_of, and_r, eq_test}
use Rattle.laws.specs.Every.{Every}
use Rattle.laws.specs.Lists.{all, each, range}
use Rattle.limits.specs.Limits.{max_depth, max_distance}
use Rattle.tree.proofs.Encode.{Even, Holds, family-tile, holds_left, nodes-head}
use Rattle.tree.proofs.Shaped.{Fine, Ok, nodes-ok}
use Rattle.tree.specs.Encode.{Node, encode, family, level_nodes, node_words, nodes, numbered, pair_words, span}
use Rattle.tree.specs.Grove.{Grove, entries}
use Rattle.words.specs.Shape.{born, level, node_ok_lem, position_ok, root_ok_lem, shape_ok_lem, tile}
use Rattle.words.specs.Words.{nodes#, at, count#, dist#, edition#, kept, l#, m#, n#, node_at_lem, pair_at, row#, start#, width}
use borrow.Author.Tests.{eqb-false, eqb-true}
use lib.Dec.{T, eqb, eqb→eq, leb, le→leb, ltb, lt→ltb}
use lib.ListN.{get_or, length, length-append}
use lib.Seq.{get_or-append-add}
use mathlib.Core.Bool.{Bool, ◌&&◌, cond, false, true}
use mathlib.Core.List.{List, [], ◌++◌, ◌∷◌, append_assoc}
use mathlib.Core.Path.{◌∙◌, ◌≡◌, ap, refl, subst, sym}
use native.Mathlib.Nat.{add-zero, mul-suc, mul-zero, zero-add}
use native.Mathlib.Omega.{arith}

-- at place n behind a prefix
pub at-behind : (pre ys : List ℕ) (i n : ℕ) → i ≡ length pre + n → at (pre ++ ys) i ≡ at ys n
at-behind pre ys i n e = ap (λ k. get_or (pre ++ ys) k 0) e ∙ get_or-append-add pre ys n 0

-- the two editions
abbrev pub Edition : ℕ → Type 0
Edition e = (1 ≤ e) × (e ≤ 2)

-- what an edition keeps stands behind the four words
kept_at : (e : ℕ) (v : Node) (ys : List ℕ) → kept e (at (node_words e v ++ ys) 4) ≡ kept e v.3.inner
kept_at e v ys = go (eqb e 2)
  where
    go : (b : Bool) → cond b (at (v.0 ∷ v.1 ∷ v.2 ∷ v.3.outer ∷ cond b (v.3.inner ∷ []) [] ++ ys) 4) 0 ≡ cond b v.3.inner 0
    go true = refl
    go false = refl

-- a node has as many words as the edition says
node_words_lem : (e : ℕ) (v : Node) → Edition e → length (node_words e v) ≡ width e
node_words_lem e v h = go (eqb e 2) refl
  where
    go : (b : Bool) → eqb e 2 ≡ b → length (v.0 ∷ v.1 ∷ v.2 ∷ v.3.outer ∷ cond b (v.3.inner ∷ []) []) ≡ width e
    go true q = omega (arith, eqb-true e 2 q)
    go false q = omega (arith, h.0, h.1, eqb-false e 2 q)

-- so have all
pub each_words : (e : ℕ) (vs : List Node) → Edition e → length (each (node_words e) vs) ≡ width e * length vs
each_words e [] h = sym (mul-zero (width e))
each_words e (v ∷ vs) h =
    omega (arith, length-append (node_words e v) (each (node_words e) vs), node_words_lem e v h, each_words e vs h, mul-suc (width e) (length vs))

-- NODE WORDS ARE READ BACK: behind the words `pre`, the nodes stand from number j on
pub read-nodes : (e : ℕ) → Edition e → (vs : List Node) (pre z w : List ℕ) (j : ℕ) → pre ++ (each (node_words e) vs ++ z) ≡ w → edition# w ≡ e
    → length pre ≡ 8 + width e * j → Holds w j vs
read-nodes e h [] pre z w j q d l = tt
read-nodes e h (v ∷ vs) pre z w j q d l =
    let zs : List ℕ = each (node_words e) vs ++ z in
    let ys : List ℕ = node_words e v ++ zs in
    let pre' : List ℕ = pre ++ node_words e v in
    let q'' : pre ++ ys ≡ w = ap (λ l. pre ++ l) (sym (append_assoc (node_words e v) (each (node_words e) vs) z)) ∙ q in
    let q' : pre' ++ zs ≡ w = append_assoc pre (node_words e v) zs ∙ q'' in
    let base : node_at_lem w j ≡ length pre = ap (λ (k : ℕ). 8 + width k * j) d ∙ sym l in
    let word : (i : ℕ) → at w (node_at_lem w j + i) ≡ at ys i = λ i.
    ap (λ l. at l (node_at_lem w j + i)) (sym q'') ∙ at-behind pre ys (node_at_lem w j + i) i (ap (λ (k : ℕ). k + i) base) in (
      ap (at w) (sym (add-zero (node_at_lem w j))) ∙ word 0,
      word 1,
      word 2,
      (
        word 3,
        ap (kept (edition# w)) (word 4) ∙ ap (λ (k : ℕ). kept k (at ys 4)) d ∙ kept_at e v zs
            ∙ ap (λ (k : ℕ). kept k v.3.inner) (sym d),
      ),
      read-nodes e h vs pre' z w (suc j) q' d (omega (arith, length-append pre (node_words e v), node_words_lem e v h, mul-suc (width e) j)),
    )

-- POSITION WORDS ARE READ BACK: a fact of each pair is one of each position
read_pairs : (P : ℕ → ℕ → Type 0) (es : List (ℕ × ℕ)) (pre : List ℕ) (w : List ℕ) (p : ℕ) → pre ++ each pair_words es ≡ w
    → length pre ≡ pair_at w p
    → Every (λ e. P e.0 e.1) es → Every (λ p. P (row# w p) (dist# w p)) (range p (length es))
read_pairs P [] pre w p e l h = tt
read_pairs P (x ∷ es) pre w p e l h =
    let ys : List ℕ = each pair_words (x ∷ es) in
    let a : row# w p ≡ x.0 = ap (λ l. at l (pair_at w p)) (sym e) ∙ at-behind pre ys (pair_at w p) 0 (omega arith) in
    let b : dist# w p ≡ x.1 =
    ap (λ l. at l (pair_at w p + 1)) (sym e) ∙ at-behind pre ys (pair_at w p + 1) 1 (omega arith) in (
      subst (λ s. P s (dist# w p)) (sym a) (subst (P x.0) (sym b) h.0),
      read_pairs P es (pre ++ pair_words x) w (suc p) (append_assoc pre (pair_words x) (each pair_words es) ∙ e)
          (omega (arith, length-append pre (pair_words x))) h.1,
    )

-- the root's words
root_ok : (w : List ℕ) (N e : ℕ) → T (tile w 0 1 0 e) → n# w ≡ e → born w N ≡ N → T (root_ok_lem w N)
unfolding tile
root_ok w zero e t q b = tt
root_ok w (suc N) e t q b =
    let s = eqb (start# w 0) 0 in
    let u : 0 + count# w 0 ≡ e = eqb→eq (0 + count# w 0) e (and_r s (eqb (0 + count# w 0) e) t) in
    and_of (s && eqb (count# w 0) (n# w)) (eqb (born w (suc N)) (suc N))
    (and_of s (eqb (count# w 0) (n# w)) (and_l s (eqb (0 + count# w 0) e) t) (eq_test (count# w 0) (n# w) (omega arith)))
    (eq_test (born w (suc N)) (suc N) b)

module _ (e m l : ℕ) (ed : Edition e) (t : Grove) (one : span t ≡ 1) (ev : Even m t) (fi : Fine l max_depth t) where
  -- words that hold the numbered tree
  written : (w : List ℕ) → m# w ≡ m → l# w ≡ l → nodes# w ≡ length (numbered t) → n# w ≡ length (entries t) → Holds w 0 (numbered t)
      → Every (λ p. T (position_ok w p)) (range 0 (length (entries t))) → T (shape_ok_lem w)
  unfolding numbered shape_ok_lem level_nodes level born
  written w em el eN en h ps =
      let fs : List (ℕ × Grove) = (0, t) ∷ [] in
      let r = nodes-ok w max_depth 0 0 (span t) fs h (subst (λ k. Even k t) (sym em) ev, tt) (subst (λ k. Fine k max_depth t) (sym el) fi, tt)
      (omega arith) (omega arith) refl (sym one) refl in
      let hd = nodes-head w max_depth 0 (span t) fs h in
      let tl = family-tile w 0 (span t) 0 t (holds_left w 0 (family (span t) 0 t) [] hd) in
      let tl' : T (tile w 0 1 0 (length (entries t))) =
      subst (λ k. T (tile w 0 k 0 (length (entries t)))) one (subst (λ e. T (tile w 0 (span t) 0 e)) (zero-add (length (entries t))) tl) in
      let b : born w (nodes# w) ≡ nodes# w = subst (λ k. born w k ≡ k) (zero-add (length (nodes max_depth (span t) fs)) ∙ sym eN) r.1 in
      and_of (root_ok_lem w (nodes# w) && all (node_ok_lem w) (range 0 (nodes# w))) (all (position_ok w) (range 0 (n# w)))
      (and_of (root_ok_lem w (nodes# w)) (all (node_ok_lem w) (range 0 (nodes# w))) (root_ok w (nodes# w) (length (entries t)) tl' en b)
      (all_of (node_ok_lem w) (range 0 (nodes# w)) (subst (Ok w 0) (sym eN) r.0)))
      (all_of (position_ok w) (range 0 (n# w)) (subst (λ k. Every (λ p. T (position_ok w p)) (range 0 k)) (sym en) ps))

  -- WHAT ENCODE WRITES IS IN SHAPE
  pub encode-shape : (c o : ℕ) → Every (λ e. (e.0 < length (entries t)) × (e.1 ≤ max_distance)) (entries t) → T (shape_ok_lem (encode e c o m l t))
  unfolding encode
  encode-shape c o ok =
      let w : List ℕ = encode e c o m l t in
      let H : List ℕ = e ∷ length (entries t) ∷ c ∷ m ∷ l ∷ length (numbered t) ∷ 1 ∷ o ∷ [] in
      let B : List ℕ = each (node_words e) (numbered t) in
      let Z : List ℕ = each pair_words (entries t) in
      written w refl refl refl refl (read-nodes e ed (numbered t) H Z w 0 refl refl (omega (arith, mul-zero (width e))))
      (read_pairs (λ r s. T (ltb r (length (entries t)) && leb s max_distance)) (entries t) (H ++ B) w 0 (append_assoc H B Z)
      (omega (arith, length-append H B, each_words e (numbered t) ed))
      (every_of (λ e. (e.0 < length (entries t)) × (e.1 ≤ max_distance)) (λ e. T (ltb e.0 (length (entries t)) && leb e.1 max_distance))
      (λ e h. and_of (ltb e.0 (length (entries t))) (leb e.1 max_distance) (lt→ltb e.0 (length (entries t)) h.0)
      (le→leb e.1 max_distance h.1)) (entries t) ok))
