-- A header written before nodes that stand in a room, and words behind them: whatever the nodes and the words. Assumes nothing.
use Prim.Native.Nat.{◌+◌, ◌-◌, ◌≤◌, ℕ}
use Rattle.growing.specs.Stages.{with_nodes}
use Rattle.laws.proofs.Parts.{put_more}
use Rattle.laws.specs.Lists.{each}
use Rattle.split.specs.Places.{node_at_lem}
use Rattle.tree.proofs.Written.{each_words}
use Rattle.tree.specs.Encode.{Node, node_words}
use borrow.Rule.Slice.PartMut.{mid_of, put_mid}
use lib.ListN.{drop, length, length-append, take}
use lib.Seq.{drop_at, length-take-le}
use mathlib.Core.List.{List, ◌++◌, append_assoc}
use mathlib.Core.Path.{◌∙◌, ◌≡◌, ap, ap₂, sym}
use native.Mathlib.Omega.{arith}

module _ (origin : List ℕ) (ns : List Node) (made : ℕ) {room : List ℕ} (nodes : room ≡ with_nodes origin ns) (count : made ≡ length ns)
    (head : List ℕ) (eight : length head ≡ 8) where
  -- the words before those behind
  abbrev front : List ℕ
  front = head ++ each (node_words 2) ns

  -- as far as the nodes' end
  front_long : length front ≡ node_at_lem made
  front_long =
      length-append head (each (node_words 2) ns) ∙ omega (arith, eight, each_words 2 ns (omega arith, omega arith), count)

  -- the header is written
  headed : 8 ≤ length origin → {room₂ : List ℕ} → room₂ ≡ head ++ drop 8 room → room₂ ≡ front ++ drop (node_at_lem made) origin
  headed fits q =
      let R : List ℕ = drop (node_at_lem (length ns)) origin in
      q
      ∙ ap (λ (x : List ℕ). head ++ x) (ap (drop 8) nodes
      ∙ drop_at (take 8 origin) (each (node_words 2) ns ++ R) 8 (length-take-le 8 origin fits)
      ∙ ap (λ (k : ℕ). each (node_words 2) ns ++ drop (node_at_lem k) origin) (sym count))
      ∙ sym (append_assoc head (each (node_words 2) ns) (drop (node_at_lem made) origin))

  -- AND THE WORDS BEHIND
  pub framed : (words : List ℕ) (k : ℕ) {room₂ ys : List ℕ} {at : ℕ} → node_at_lem made + k ≤ length origin → length room₂ ≡ length origin
      → room₂ ≡ head ++ drop 8 room → at ≡ node_at_lem made → ys ≡ words ++ drop k (mid_of at (length room₂ - at) room₂)
      → put_mid at (length room₂ - at) room₂ ys ≡ (head ++ (each (node_words 2) ns ++ words)) ++ drop (node_at_lem made + k) origin
  framed words k {room₂} {ys} {at} fits same q place f =
      put_more front words origin room₂ ys at k (front_long ∙ sym place) (omega (arith, place, same, fits))
      (headed (omega (arith, fits)) q ∙ ap (λ (i : ℕ). front ++ drop i origin) (sym place)) f
      ∙ ap₂ (λ (x : List ℕ) (i : ℕ). x ++ drop (i + k) origin) (append_assoc head (each (node_words 2) ns) words) place
