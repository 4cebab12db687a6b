-- The groups of a run's centres, one after the other, with their nodes. Assumes nothing.
use Prim.Native.Nat.{◌*◌, ◌+◌, ◌-◌, ◌<◌, ◌≤◌, suc, zero, ℕ}
use Rattle.groups.proofs.Gathered.{group-size}
use Rattle.groups.specs.Groups.{Gatherable, Gathered, group, narrowest, picked, size, widest}
use Rattle.laws.proofs.Parts.{put_more}
use Rattle.rounds.proofs.Parts.{read_front, stretch_front}
use Rattle.split.specs.Places.{node_at_lem}
use Rattle.split.specs.Shares.{Sharable, Shared, centres, group_nodes, group_words, shared, shared_nodes, waiting}
use borrow.Rule.Slice.PartMut.{mid_of, put_mid}
use lib.ListN.{drop, get_or, length, length-append, length-drop, take, take-append-drop}
use lib.Seq.{drop-append-add, drop_at, drop-drop, length-take-le, take-add, take_all, take_at}
use mathlib.Core.List.{List, [], ◌++◌, ◌∷◌, append_assoc, append-nil}
use mathlib.Core.Path.{◌∙◌, ◌≡◌, ap, ap₂, refl, sym}
use native.Mathlib.Omega.{arith}

-- five words a node
nodes_long : (at : ℕ) (es cs : List ℕ) → length (shared_nodes at es cs) ≡ 5 * length cs
unfolding shared_nodes
nodes_long at es [] = refl
nodes_long at es (a ∷ cs) = omega (arith, nodes_long (at + size (group a es)) es cs)

-- k centres are read
centres_long : (w : List ℕ) (p k : ℕ) → length (centres w p k) ≡ k
unfolding centres
centres_long w p zero = refl
centres_long w p (suc k) = omega (arith, centres_long w (p + 3) k)

-- t groups and their nodes are written, as far as position `at`
pub record Sharing (room₀ work₀ : List ℕ) (n m s count made : ℕ) (room work : List ℕ) (at t : ℕ) : Type 0 where
  pub some : t ≤ m
  pub from : s ≤ at
  pub upto : at ≤ s + count
  pub long : length work ≡ length work₀
  pub wide : length room ≡ length room₀
  pub left : drop (3 * (at - s)) (group_words work₀ m s count) ≡ shared (waiting work₀ m s count) (centres work₀ (3 * (s + t)) (m - t))
  pub wrote : work ≡ (take (3 * (n + s)) work₀ ++ take (3 * (at - s)) (group_words work₀ m s count)) ++ drop (3 * (n + s) + 3 * (at - s)) work₀
  pub nodes_left : drop (5 * t) (group_nodes work₀ m s count) ≡ shared_nodes at (waiting work₀ m s count) (centres work₀ (3 * (s + t)) (m - t))
  pub nodes_wrote : room ≡ (take (node_at_lem made) room₀ ++ take (5 * t) (group_nodes work₀ m s count)) ++ drop (node_at_lem (made + t)) room₀

module _ {room₀ work₀ : List ℕ} {n m s count made : ℕ} (asked : Sharable room₀ work₀ n m s count made) where
  -- the entries that wait
  abbrev W : List ℕ
  W = waiting work₀ m s count

  -- the words of all groups
  abbrev G : List ℕ
  G = group_words work₀ m s count

  -- the words of all their nodes
  abbrev N : List ℕ
  N = group_nodes work₀ m s count

  -- m nodes
  all_nodes_lem : length N ≡ 5 * m
  all_nodes_lem = nodes_long s W (centres work₀ (3 * s) m) ∙ ap (λ (k : ℕ). 5 * k) (centres_long work₀ (3 * s) m)

  module _ {room work : List ℕ} {at t : ℕ} (inv : Sharing room₀ work₀ n m s count made room work at t) where
    -- the workspace as far as it is written
    abbrev front : List ℕ
    front = take (3 * (n + s)) work₀ ++ take (3 * (at - s)) G

    -- where the next group goes
    abbrev behind : ℕ
    behind = 3 * (n + s) + 3 * (at - s)

    -- all m groups are written
    pub sharing-done : m ≤ t → Shared room₀ work₀ n m s count made room work
    unfolding centres shared_nodes
    sharing-done h =
        let z : m - t ≡ 0 = omega arith in
        let same : t ≡ m = omega (arith, inv.some) in
        let from : s ≤ at = inv.from in
        let upto : at ≤ s + count = inv.upto in
        let none : drop (3 * (at - s)) G ≡ [] = inv.left ∙ ap (λ (k : ℕ). shared W (centres work₀ (3 * (s + t)) k)) z in
        let all : 3 * (at - s) ≡ 3 * count = omega (arith, ap length none, length-drop (3 * (at - s)) G, asked.tile) in
        record {
          words =
              inv.wrote ∙ append_assoc (take (3 * (n + s)) work₀) (take (3 * (at - s)) G) (drop behind work₀)
              ∙ ap₂ (λ (l : List ℕ) (k : ℕ). take (3 * (n + s)) work₀ ++ (l ++ drop (3 * (n + s) + k) work₀))
              (take_all (3 * (at - s)) G (omega (arith, asked.tile))) all;
          nodes =
              inv.nodes_wrote ∙ append_assoc (take (node_at_lem made) room₀) (take (5 * t) N) (drop (node_at_lem (made + t)) room₀)
              ∙ ap₂ (λ (l : List ℕ) (k : ℕ). take (node_at_lem made) room₀ ++ (l ++ drop (node_at_lem (made + k)) room₀))
              (take_all (5 * t) N (omega (arith, all_nodes_lem))) same;
        }

    -- ---- one group more
    module _ (more : t < m) where
      -- its centre
      centre : ℕ
      centre = get_or work₀ (3 * (s + t)) 0

      -- the centres after it
      later : List ℕ
      later = centres work₀ (3 * (s + t) + 3) (m - (t + 1))

      -- its words
      abbrev g : List ℕ
      g = group centre W

      -- the centres that are left
      next : centres work₀ (3 * (s + t)) (m - t) ≡ centre ∷ later
      unfolding centres centre later
      next =
          let less : m - t ≡ suc (m - (t + 1)) = omega arith in
          ap (centres work₀ (3 * (s + t))) less

      -- what stands before the groups is as it was
      kept : work ≡ take (3 * (n + s)) work₀ ++ (take (3 * (at - s)) G ++ drop behind work₀)
      kept = inv.wrote ∙ append_assoc (take (3 * (n + s)) work₀) (take (3 * (at - s)) G) (drop behind work₀)

      -- so that its centre is read as it was
      sharing-read : get_or work (3 * (s + t)) 0 ≡ get_or work₀ (3 * (s + t)) 0
      sharing-read =
          read_front work work₀ (take (3 * (at - s)) G ++ drop behind work₀) (3 * (n + s)) (3 * (s + t))
          (omega (arith, asked.inside, asked.halves)) kept (omega (arith, asked.inside, asked.centred))

      -- and so are the entries that wait
      source : waiting work m s count ≡ W
      source =
          stretch_front work work₀ (take (3 * (at - s)) G ++ drop behind work₀) (3 * (s + m)) (3 * (s + count)) (3 * (n + s))
          (omega (arith, asked.inside)) (omega (arith, asked.inside, asked.halves)) kept

      -- and so is the group
      same-group : group (get_or work (3 * (s + t)) 0) (waiting work m s count) ≡ g
      unfolding centre
      same-group = ap₂ group sharing-read source

      -- its words are the next of those that are left
      rest-words : drop (3 * (at - s)) G ≡ g ++ shared W later
      rest-words = inv.left ∙ ap (shared W) next

      -- it ends in the run
      sharing-fits : at + size g ≤ s + count
      sharing-fits =
          let from : s ≤ at = inv.from in
          let words = ap length rest-words ∙ length-append g (shared W later) in
          omega (arith, words, length-drop (3 * (at - s)) G, group-size centre W, asked.tile, inv.upto)

      -- there is room for it
      pub sharing-asked : Gatherable work (3 * (s + m)) (3 * (s + count)) (get_or work (3 * (s + t)) 0) (3 * (n + at))
      sharing-asked =
          let c : m ≤ count = asked.centred in
          let i : s + count ≤ n = asked.inside in
          record {
            order = omega arith;
            before = omega arith;
            thirds = omega arith;
            room = rw same-group (omega (arith, sharing-fits, asked.halves, inv.long));
          }

      module _ {work' : List ℕ} {k radius inner : ℕ}
          (got : Gathered work (3 * (s + m)) (3 * (s + count)) (get_or work (3 * (s + t)) 0) (3 * (n + at)) work' k radius inner) where
        -- it has k members
        members : k ≡ size g
        members = got.members ∙ ap size same-group

        -- the farthest at `radius`
        far : radius ≡ widest g
        far = got.far ∙ ap widest same-group

        -- the nearest but the centre at `inner`
        near : inner ≡ narrowest (picked centre W)
        unfolding centre
        near = got.near ∙ ap₂ (λ (a : ℕ) (es : List ℕ). narrowest (picked a es)) sharing-read source

        -- it ends in the run, by its count
        pub sharing-small : at + k ≤ s + count
        sharing-small = omega (arith, members, sharing-fits)

        -- three words each
        group-long : length g ≡ 3 * k
        group-long = group-size centre W ∙ ap (λ (x : ℕ). 3 * x) (sym members)

        -- how many words are written then
        step-size : 3 * (at + k - s) ≡ 3 * (at - s) + 3 * k
        step-size = omega (arith, inv.from)

        -- the words that are left then
        step_left : drop (3 * (at + k - s)) G ≡ shared W later
        step_left =
            ap (λ (x : ℕ). drop x G) step-size ∙ sym (drop-drop (3 * k) (3 * (at - s)) G) ∙ ap (drop (3 * k)) rest-words
            ∙ drop_at g (shared W later) (3 * k) group-long

        -- and those that are written
        step-take : take (3 * (at + k - s)) G ≡ take (3 * (at - s)) G ++ g
        step-take =
            ap (λ (x : ℕ). take x G) step-size ∙ take-add (3 * (at - s)) (3 * k) G
            ∙ ap (λ (l : List ℕ). take (3 * (at - s)) G ++ l) (ap (take (3 * k)) rest-words ∙ take_at g (shared W later) (3 * k) group-long)

        -- the group is written behind the others
        step-wrote : work' ≡ (take (3 * (n + s)) work₀ ++ take (3 * (at + k - s)) G) ++ drop (3 * (n + s) + 3 * (at + k - s)) work₀
        step-wrote =
            let g' : List ℕ = group (get_or work (3 * (s + t)) 0) (waiting work m s count) in
            let end : ℕ = 3 * (n + s) + 3 * (at + k - s) in
            let from : s ≤ at = inv.from in
            let upto : at ≤ s + count = inv.upto in
            let fit = sharing-fits in
            let old = length-take-le (3 * (n + s)) work₀ (omega (arith, asked.inside, asked.halves)) in
            let new = length-take-le (3 * (at - s)) G (omega (arith, asked.tile)) in
            let lf : length front ≡ 3 * (n + at) = length-append (take (3 * (n + s)) work₀) (take (3 * (at - s)) G) ∙ omega arith in
            let fore : take (3 * (n + at)) work ≡ front =
            ap (take (3 * (n + at))) inv.wrote ∙ take_at front (drop behind work₀) (3 * (n + at)) lf in
            let more : behind + 3 * k ≡ end = omega (arith, step-size) in
            let back : drop (3 * (n + at) + 3 * k) work ≡ drop end work₀ =
            ap₂ (λ (l : List ℕ) (x : ℕ). drop (x + 3 * k) l) inv.wrote (sym lf) ∙ drop-append-add front (drop behind work₀) (3 * k)
            ∙ drop-drop (3 * k) behind work₀ ∙ ap (λ (x : ℕ). drop x work₀) more in
            let sz : size g' ≡ k = sym got.members in
            got.words ∙ ap (λ (x : ℕ). take (3 * (n + at)) work ++ (g' ++ drop (3 * (n + at) + 3 * x) work)) sz
            ∙ ap₂ (λ (l r : List ℕ). l ++ (g' ++ r)) fore back
            ∙ ap (λ (l : List ℕ). front ++ (l ++ drop end work₀)) same-group
            ∙ sym (append_assoc front g (drop end work₀))
            ∙ ap (λ (l : List ℕ). l ++ drop end work₀)
            (append_assoc (take (3 * (n + s)) work₀) (take (3 * (at - s)) G) g ∙ ap (λ (l : List ℕ). take (3 * (n + s)) work₀ ++ l) (sym step-take))

        -- its node is the next of the nodes that are left
        node_words_lem : drop (5 * t) N ≡ at ∷ k ∷ 0 ∷ radius ∷ inner ∷ shared_nodes (at + k) W later
        unfolding shared_nodes
        node_words_lem =
            inv.nodes_left ∙ ap (shared_nodes at W) next
            ∙ ap₂ (λ (x y : ℕ). at ∷ x ∷ 0 ∷ y ∷ narrowest (picked centre W) ∷ shared_nodes (at + x) W later) (sym members) (sym far)
            ∙ ap (λ (z : ℕ). at ∷ k ∷ 0 ∷ radius ∷ z ∷ shared_nodes (at + k) W later) (sym near)

        -- five words more
        five : 5 * (t + 1) ≡ 5 * t + 5
        five = omega arith

        -- it is written behind the others
        step-nodes : (ys : List ℕ) → ys ≡ at ∷ k ∷ 0 ∷ radius ∷ inner ∷ drop 5 (mid_of (node_at_lem (made + t)) (length room - node_at_lem (made + t)) room)
            → put_mid (node_at_lem (made + t)) (length room - node_at_lem (made + t)) room ys
            ≡ (take (node_at_lem made) room₀ ++ take (5 * (t + 1)) N) ++ drop (node_at_lem (made + (t + 1))) room₀
        step-nodes ys e =
            let node : List ℕ = at ∷ k ∷ 0 ∷ radius ∷ inner ∷ [] in
            let F : List ℕ = take (node_at_lem made) room₀ ++ take (5 * t) N in
            let fits : node_at_lem (made + m) ≤ length room₀ = asked.nodes in
            let lf : length F ≡ node_at_lem (made + t) =
            length-append (take (node_at_lem made) room₀) (take (5 * t) N)
            ∙ omega (arith, length-take-le (node_at_lem made) room₀ (omega arith), length-take-le (5 * t) N (omega (arith, all_nodes_lem))) in
            let up : node_at_lem (made + t) + 5 ≡ node_at_lem (made + (t + 1)) = omega arith in
            let taken : take (5 * (t + 1)) N ≡ take (5 * t) N ++ node =
            ap (λ (x : ℕ). take x N) five ∙ take-add (5 * t) 5 N ∙ ap (λ (l : List ℕ). take (5 * t) N ++ take 5 l) node_words_lem in
            put_more F node room₀ room ys (node_at_lem (made + t)) 5 lf (omega (arith, inv.wide)) inv.nodes_wrote e
            ∙ ap₂ (λ (l : List ℕ) (x : ℕ). l ++ drop x room₀)
            (append_assoc (take (node_at_lem made) room₀) (take (5 * t) N) node ∙ ap (λ (l : List ℕ). take (node_at_lem made) room₀ ++ l) (sym taken)) up

        -- the group and its node are written
        pub sharing-step : {ys : List ℕ}
            → ys ≡ at ∷ k ∷ 0 ∷ radius ∷ inner ∷ drop 5 (mid_of (node_at_lem (made + t)) (length room - node_at_lem (made + t)) room)
            → length work' ≡ length work → length (put_mid (node_at_lem (made + t)) (length room - node_at_lem (made + t)) room ys) ≡ length room
            → Sharing room₀ work₀ n m s count made (put_mid (node_at_lem (made + t)) (length room - node_at_lem (made + t)) room ys) work' (at + k) (t + 1)
        unfolding later
        sharing-step {ys} e lw lr =
            let idx : 3 * (s + (t + 1)) ≡ 3 * (s + t) + 3 = omega arith in
            record {
              some = omega arith;
              from = omega (arith, inv.from);
              upto = sharing-small;
              long = lw ∙ inv.long;
              wide = lr ∙ inv.wide;
              left = step_left ∙ ap (λ (x : ℕ). shared W (centres work₀ x (m - (t + 1)))) (sym idx);
              wrote = step-wrote;
              nodes_left =
                  ap (λ (x : ℕ). drop x N) five ∙ sym (drop-drop 5 (5 * t) N) ∙ ap (drop 5) node_words_lem
                  ∙ ap (λ (x : ℕ). shared_nodes (at + k) W (centres work₀ x (m - (t + 1)))) (sym idx);
              nodes_wrote = step-nodes ys e;
            }
