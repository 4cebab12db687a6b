-- What a build in edition 1 writes, widened, is what a build in edition 2 writes. Assumes nothing.
use Prim.Native.Nat.{◌+◌, ◌<◌, ◌≤◌, suc, zero, ℕ}
use Rattle.laws.proofs.Ranges.{every-at}
use Rattle.laws.specs.Every.{Every}
use Rattle.laws.specs.Lists.{each, range}
use Rattle.limits.specs.Limits.{circles_ok_lem, columns_ok_lem, max_rows, share_ok_lem}
use Rattle.measure.specs.Table.{Rounded, between, rows_of}
use Rattle.tree.proofs.Accepted.{shape_of}
use Rattle.tree.proofs.Alike.{Alike, inner-is-nearest, nearest-same}
use Rattle.tree.proofs.Built.{build-accepted}
use Rattle.tree.proofs.Encode.{Holds}
use Rattle.tree.proofs.Held.{At, read_at}
use Rattle.tree.proofs.NoFaults.{no_faults}
use Rattle.tree.proofs.Written.{Edition, each_words, read-nodes}
use Rattle.tree.specs.Build.{build, plant}
use Rattle.tree.specs.Check.{Accepted, nearest#}
use Rattle.tree.specs.Encode.{Node, encode, node_words, numbered, pair_words}
use Rattle.tree.specs.Grove.{Grove, entries, reaching}
use Rattle.tree.specs.Widen.{widen, widened}
use Rattle.words.specs.Words.{child#, count#, dist#, edition#, inner#, kept, n#, radius#, row#, start#, width}
use lib.ListN.{length, length-append}
use mathlib.Core.Bool.{true}
use mathlib.Core.List.{List, [], ◌++◌, ◌∷◌, append_assoc, map}
use mathlib.Core.Path.{◌∙◌, ◌≡◌, ap, ap₂, refl, sym}
use native.Mathlib.Nat.{mul-zero}
use native.Mathlib.Omega.{arith}

-- ---- a written tree is read back
module _ (e c o m l : ℕ) (ed : Edition e) (t : Grove) where
  -- its nodes
  pub encode-nodes : Holds (encode e c o m l t) 0 (numbered t)
  unfolding encode
  encode-nodes =
      read-nodes e ed (numbered t) (e ∷ length (entries t) ∷ c ∷ m ∷ l ∷ length (numbered t) ∷ 1 ∷ o ∷ []) (each pair_words (entries t))
      (encode e c o m l t) 0 refl refl (omega (arith, mul-zero (width e)))

  -- and its pairs
  pub encode-pairs : At (encode e c o m l t) 0 (entries t)
  unfolding encode
  encode-pairs =
      let H : List ℕ = e ∷ length (entries t) ∷ c ∷ m ∷ l ∷ length (numbered t) ∷ 1 ∷ o ∷ [] in
      let B : List ℕ = each (node_words e) (numbered t) in
      read_at (entries t) (H ++ B) (encode e c o m l t) 0 (append_assoc H B (each pair_words (entries t)))
      (omega (arith, length-append H B, each_words e (numbered t) ed))

-- ---- two indexes that hold the same
-- nodes
holds_two : (w v : List ℕ) (j : ℕ) (vs : List Node) → Holds w j vs → Holds v j vs
    → Every (λ k. (start# v k ≡ start# w k) × (count# v k ≡ count# w k) × (child# v k ≡ child# w k) × (radius# v k ≡ radius# w k)) (range j (length vs))
holds_two w v j [] h g = tt
holds_two w v j (u ∷ us) h g =
    ((g.0 ∙ sym h.0, g.1 ∙ sym h.1, g.2 ∙ sym h.2, g.3.0 ∙ sym h.3.0), holds_two w v (suc j) us h.4 g.4)

-- pairs
at_two : (w v : List ℕ) (s : ℕ) (es : List (ℕ × ℕ)) → At w s es → At v s es
    → Every (λ p. (row# v p ≡ row# w p) × (dist# v p ≡ dist# w p)) (range s (length es))
at_two w v s [] h g = tt
at_two w v s (e ∷ es) h g = ((g.0 ∙ sym h.0, g.1 ∙ sym h.1), at_two w v (suc s) es h.2 g.2)

-- ---- the nodes and pairs of an index as lists
-- a node by its numbers
node_is : {a b c o i : ℕ} (v : Node) → a ≡ v.0 → b ≡ v.1 → c ≡ v.2 → o ≡ v.3.outer → i ≡ v.3.inner
    → ◌≡◌ {A = Node} (a, b, c, reaching o i) v
node_is v p q r s t = rw (p, q, r, s, t)

-- the widened nodes are those of the tree, where the nearest members are as near as the tree says
nodes_back : (d : ℕ → ℕ → ℕ) (w v : List ℕ) (j : ℕ) (vs : List Node) → Holds w j vs → Holds v j vs → edition# v ≡ 2
    → ((k : ℕ) → j ≤ k → k < j + length vs → nearest# d w k ≡ inner# v k) → map (widened d w) (range j (length vs)) ≡ vs
nodes_back d w v j [] h g e f = refl
nodes_back d w v j (u ∷ us) h g e f =
    ap₂ (λ a as'. a ∷ as') (node_is u h.0 h.1 h.2 h.3.0 (f j (omega arith) (omega arith) ∙ g.3.1 ∙ ap (λ (e : ℕ). kept e u.3.inner) e))
    (nodes_back d w v (suc j) us h.4 g.4 e (λ k a b. f k (omega arith) (omega arith)))

-- so are the pairs
pub pairs_back : (w : List ℕ) (s : ℕ) (es : List (ℕ × ℕ)) → At w s es → map (λ p. (row# w p, dist# w p)) (range s (length es)) ≡ es
pairs_back w s [] h = refl
pairs_back w s (e ∷ es) h = ap₂ (λ a as'. a ∷ as') (ap₂ (λ a b. (a, b)) h.0 h.1) (pairs_back w (suc s) es h.2)

-- A TREE THAT IS WRITTEN AND WIDENED IS THE TREE WRITTEN IN EDITION 2
pub widen-encode : (d : ℕ → ℕ → ℕ) (c o m l : ℕ) (t : Grove) → Accepted d (encode 1 c o m l t) → Accepted d (encode 2 c o m l t)
    → widen d (encode 1 c o m l t) ≡ encode 2 c o m l t
unfolding widen encode
widen-encode d c o m l t A B =
    let w : List ℕ = encode 1 c o m l t in
    let v : List ℕ = encode 2 c o m l t in
    let h = encode-nodes 1 c o m l (omega arith, omega arith) t in
    let g = encode-nodes 2 c o m l (omega arith, omega arith) t in
    let ph = encode-pairs 1 c o m l (omega arith, omega arith) t in
    let pg = encode-pairs 2 c o m l (omega arith, omega arith) t in
    let N : ℕ = length (numbered t) in
    let n : ℕ = length (entries t) in
    let two = holds_two w v 0 (numbered t) h g in
    let pairs = at_two w v 0 (entries t) ph pg in
    let node : (k : ℕ) → k < N → (start# v k ≡ start# w k) × (count# v k ≡ count# w k) × (child# v k ≡ child# w k) × (radius# v k ≡ radius# w k) =
    λ k q. every-at (λ k. (start# v k ≡ start# w k) × (count# v k ≡ count# w k) × (child# v k ≡ child# w k) × (radius# v k ≡ radius# w k)) N k two q in
    let pair : (p : ℕ) → p < n → (row# v p ≡ row# w p) × (dist# v p ≡ dist# w p) = λ p q. every-at (λ p. (row# v p ≡ row# w p) × (dist# v p ≡ dist# w p)) n p pairs q in
    let L : Alike w v = record {
      rows = refl;
      fan = refl;
      leaf = refl;
      nodes = refl;
      start = λ k q. (node k q).0;
      count = λ k q. (node k q).1;
      child = λ k q. (node k q).2;
      radius = λ k q. (node k q).3;
      row = λ p q. (pair p q).0;
      dist = λ p q. (pair p q).1;
    } in
    let near : (k : ℕ) → k < N → nearest# d w k ≡ inner# v k = λ k q. sym (inner-is-nearest d v (no_faults d v B.sound) refl k q ∙ nearest-same L (shape_of d w A) d k q) in
    ap₂ (λ (ns : List Node) (ps : List (ℕ × ℕ)). (2 ∷ n ∷ c ∷ m ∷ l ∷ N ∷ 1 ∷ o ∷ []) ++ (each (node_words 2) ns ++ each pair_words ps))
    (nodes_back d w v 0 (numbered t) h g refl (λ k a b. near k (omega arith))) (pairs_back w 0 (entries t) ph)

-- A BUILD IN EDITION 1, WIDENED, IS THE BUILD IN EDITION 2
pub widen-build : (T : List ℕ) (c o m l : ℕ) → columns_ok_lem c ≡ true → circles_ok_lem c o ≡ true → share_ok_lem m l ≡ true → rows_of T c ≤ max_rows → Every (λ v. v ≤ 65535) T
    → Rounded T c o → widen (between T c o) (build T c o 1 m l) ≡ build T c o 2 m l
unfolding build
widen-build T c o m l hc ho hs hn small round =
    widen-encode (between T c o) c o m l (plant (between T c o) m l (rows_of T c)) (build-accepted T c o 1 m l refl hc ho hs hn small round)
    (build-accepted T c o 2 m l refl hc ho hs hn small round)
