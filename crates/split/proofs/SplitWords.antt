-- The groups of the words that the rounds leave are the runs of the centres. Assumes nothing.
use Prim.Native.Nat.{◌*◌, ◌+◌, ◌-◌, ◌≤◌, ℕ}
use Rattle.groups.specs.Groups.{distances, group, narrowest, picked, size, widest}
use Rattle.laws.specs.Lists.{each, keep, lowest}
use Rattle.rounds.specs.Entries.{own}
use Rattle.split.proofs.Closest.{held, nearness-closest}
use Rattle.split.proofs.Laid.{under, under_distances, under_size, under_widest}
use Rattle.split.specs.Runs.{laid, run_nodes}
use Rattle.split.specs.Shares.{centres, group_nodes, group_words, shared, shared_nodes, waiting}
use Rattle.tree.specs.Build.{closest, inner_reach, nearness, radius}
use borrow.Author.Tests.{eqb-true}
use lib.Dec.{eqb}
use lib.ListN.{drop, get_or, length, length-append, take}
use lib.Seq.{drop_at, drop-drop, get_or-drop, take_at}
use mathlib.Core.Bool.{Bool, cond, false, true}
use mathlib.Core.List.{List, [], ◌++◌, ◌∷◌, append_assoc, map}
use mathlib.Core.Path.{◌∙◌, ◌≡◌, ap, ap₂, refl, sym}
use native.Mathlib.Omega.{arith}

-- the rows of is that join centre a, where cs are the centres
abbrev pub joining : (ℕ → ℕ → ℕ) → List ℕ → ℕ → List ℕ → List ℕ
joining d cs a is = keep (λ i. eqb (closest d cs i) a) is

-- the run of centre a
abbrev pub run_of : (ℕ → ℕ → ℕ) → List ℕ → List ℕ → ℕ → List ℕ
run_of d cs is a = a ∷ joining d cs a is

-- ---- the rows is wait, and cs are the centres
module _ (d : ℕ → ℕ → ℕ) (zeroed : (i : ℕ) → d i i ≡ 0) (cs : List ℕ) (some : 1 ≤ length cs) where
  -- picked are those whose closest centre is a, at their distance from it
  picked-held : (a : ℕ) (is : List ℕ) → picked a (each (held d cs) is) ≡ under (d a) a (joining d cs a is)
  unfolding picked
  picked-held a [] = refl
  picked-held a (i ∷ is) = go (eqb (closest d cs i) a) refl (picked-held a is)
    where
      go : (s : Bool) → eqb (closest d cs i) a ≡ s → picked a (each (held d cs) is) ≡ under (d a) a (joining d cs a is)
          → cond s (i ∷ nearness d cs i ∷ a ∷ picked a (each (held d cs) is)) (picked a (each (held d cs) is))
          ≡ under (d a) a (cond s (i ∷ joining d cs a is) (joining d cs a is))
      go true e h =
          let x : nearness d cs i ≡ d a i = nearness-closest d cs i some ∙ ap (λ (k : ℕ). d k i) (eqb-true (closest d cs i) a e) in
          ap₂ (λ (y : ℕ) (l : List ℕ). i ∷ y ∷ a ∷ l) x h
      go false e h = h

  module _ (is : List ℕ) where
    -- a centre's group has the words of its run
    group-laid : (a : ℕ) → group a (each (held d cs) is) ≡ laid d (run_of d cs is a)
    group-laid a = ap₂ (λ (y : ℕ) (l : List ℕ). a ∷ y ∷ a ∷ l) (sym (zeroed a)) (picked-held a is)

    -- so have the groups of any centres
    shared-laid : (bs : List ℕ) → shared (each (held d cs) is) bs ≡ each (laid d) (map (run_of d cs is) bs)
    shared-laid [] = refl
    shared-laid (a ∷ bs) = ap₂ (λ (x y : List ℕ). x ++ y) (group-laid a) (shared-laid bs)

    -- and their nodes are those of the runs
    nodes-laid : (at : ℕ) (bs : List ℕ) → shared_nodes at (each (held d cs) is) bs ≡ run_nodes d at (map (run_of d cs is) bs)
    unfolding shared_nodes run_nodes
    nodes-laid at [] = refl
    nodes-laid at (a ∷ bs) =
        let es : List ℕ = each (held d cs) is in
        let run : List ℕ = run_of d cs is a in
        let n : size (group a es) ≡ length run = ap size (group-laid a) ∙ under_size (d a) a run in
        let w : widest (group a es) ≡ radius d run = ap widest (group-laid a) ∙ under_widest (d a) a run in
        let i : narrowest (picked a es) ≡ inner_reach d run =
        ap (λ (x : List ℕ). lowest (distances x)) (picked-held a is) ∙ ap lowest (under_distances (d a) a (joining d cs a is)) in
        ap₂ (λ (x y : ℕ). at ∷ x ∷ 0 ∷ y ∷ narrowest (picked a es) ∷ shared_nodes (at + x) es bs) n w
        ∙ ap₂ (λ (z : ℕ) (l : List ℕ). at ∷ length run ∷ 0 ∷ radius d run ∷ z ∷ l) i (nodes-laid (at + length run) bs)

-- three words a centre
own_long : (cs : List ℕ) → length (each own cs) ≡ 3 * length cs
own_long [] = refl
own_long (a ∷ cs) = omega (arith, own_long cs)

-- the centres are read where they stand
centres-own : (w : List ℕ) (p : ℕ) (cs more : List ℕ) → drop p w ≡ each own cs ++ more → centres w p (length cs) ≡ cs
unfolding centres
centres-own w p [] more e = refl
centres-own w p (a ∷ cs) more e =
    let r : get_or w p 0 ≡ a =
    ap (λ (k : ℕ). get_or w k 0) (omega arith) ∙ sym (get_or-drop p w 0 0) ∙ ap (λ (l : List ℕ). get_or l 0 0) e in
    ap₂ (λ (x : ℕ) (l : List ℕ). x ∷ l) r (centres-own w (p + 3) cs more (sym (drop-drop 3 p w) ∙ ap (drop 3) e))

-- THE GROUPS OF A RUN'S WORDS AFTER THE ROUNDS: cs are its centres, and is its other rows
module _ (d : ℕ → ℕ → ℕ) (zeroed : (i : ℕ) → d i i ≡ 0) (w : List ℕ) (m s count : ℕ) (cs is more : List ℕ) (one : 1 ≤ m) (few : m ≤ count)
    (cs-long : length cs ≡ m) (here : drop (3 * s) w ≡ (each own cs ++ each (held d cs) is) ++ more)
    (long : length (each own cs ++ each (held d cs) is) ≡ 3 * count) where
  -- the centres' words, then those that wait
  opened : drop (3 * s) w ≡ each own cs ++ (each (held d cs) is ++ more)
  opened = here ∙ append_assoc (each own cs) (each (held d cs) is) more

  -- which are all words but the centres'
  is-long : 3 * m + length (each (held d cs) is) ≡ 3 * count
  is-long = omega (arith, long, length-append (each own cs) (each (held d cs) is), own_long cs, cs-long)

  -- the centres are read
  centres-are : centres w (3 * s) m ≡ cs
  centres-are = ap (centres w (3 * s)) (sym cs-long) ∙ centres-own w (3 * s) cs (each (held d cs) is ++ more) opened

  -- and the words that wait
  waiting-is : waiting w m s count ≡ each (held d cs) is
  waiting-is =
      let at : 3 * (s + m) ≡ 3 * s + 3 * m = omega arith in
      let k : 3 * (s + count) - 3 * (s + m) ≡ length (each (held d cs) is) = omega (arith, is-long) in
      let back : drop (3 * (s + m)) w ≡ each (held d cs) is ++ more =
      ap (λ (x : ℕ). drop x w) at ∙ sym (drop-drop (3 * m) (3 * s) w) ∙ ap (drop (3 * m)) opened
      ∙ drop_at (each own cs) (each (held d cs) is ++ more) (3 * m) (own_long cs ∙ ap (λ (x : ℕ). 3 * x) cs-long) in
      ap₂ (λ (x : ℕ) (l : List ℕ). take x l) k back ∙ take_at (each (held d cs) is) more (length (each (held d cs) is)) refl

  -- their words are those of the children's runs
  pub group-words : group_words w m s count ≡ each (laid d) (map (run_of d cs is) cs)
  group-words = ap₂ shared waiting-is centres-are ∙ shared-laid d zeroed cs (omega (arith, cs-long)) is cs

  -- and their nodes are those of the runs
  pub group-nodes : group_nodes w m s count ≡ run_nodes d s (map (run_of d cs is) cs)
  group-nodes = ap₂ (shared_nodes s) waiting-is centres-are ∙ nodes-laid d zeroed cs (omega (arith, cs-long)) is s cs
