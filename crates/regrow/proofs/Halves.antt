-- A level while its nodes are opened, one after the other: what stands in room and workspace, and one node among the others. Assumes nothing.
use Prim.Native.Nat.{◌+◌, ◌≤◌, suc, ℕ}
use Rattle.growing.proofs.Rooms.{child-set, nodes-added, read-child, read_count, read-start, room-long}
use Rattle.growing.specs.Levels.{opened, placed, waits}
use Rattle.growing.specs.Stages.{with_nodes}
use Rattle.laws.proofs.Every.{every-right}
use Rattle.laws.proofs.Joins.{each_append}
use Rattle.laws.proofs.Lists.{map-append}
use Rattle.laws.specs.Every.{Every}
use Rattle.laws.specs.Lists.{each, joined, keep}
use Rattle.measure.specs.Table.{between}
use Rattle.regrow.proofs.Rows.{all_more, all-some, kids-some, next_last, out-last, out_long}
use Rattle.regrow.specs.Pieces.{Job, Piece, Sound, job_of, level_out_lem, next_level, parts, pending, runs_of, with_kids}
use Rattle.regrow.specs.Stages.{Level, Paved}
use Rattle.split.specs.Places.{child#, count#, node_at_lem, start#}
use Rattle.tree.specs.Encode.{Node, node_words}
use Rattle.words.specs.Words.{nodes#, c#, circles#, m#, n#}
use lib.ListN.{drop, length, length-append, length-map, set, take}
use mathlib.Core.List.{List, [], ◌++◌, ◌∷◌, append_assoc, append-nil, map}
use mathlib.Core.Path.{◌∙◌, ◌≡◌, ap, ap₂, subst, sym}
use native.Mathlib.Omega.{arith}

module _ {t w : List ℕ} {v added limit : ℕ} {room₀ work₀ : List ℕ} {lo hi : ℕ} (g : Level t w v added limit room₀ work₀ lo hi) where
  -- the work at hand
  abbrev pub job : Job
  job = job_of t w v added limit g.run

  -- the nodes of the levels above and of the pieces that are opened
  abbrev pub front : List Piece → List Node
  front done = g.before ++ level_out_lem job hi done

  -- the nodes of the pieces that are not, and of the children there are
  abbrev pub behind : List Piece → List Piece → List Node
  behind done todo = map (pending job) todo ++ map (pending job) (next_level job done)

  -- the tiles that took the place of others
  abbrev pub gone : List (List ℕ) → List (List ℕ)
  gone past = each (opened (between t (c# w) (circles# w)) (m# w) limit) past

  -- `done` are opened and `todo` are not; the tiles `past` gave way to their children's, `ahead` did not
  pub record Half (done todo : List Piece) (past ahead : List (List ℕ)) (room work : List ℕ) (made k : ℕ) : Type 0 where
    pub all : g.items ≡ done ++ todo
    pub runs : g.tiles ≡ past ++ ahead
    pub nodes : room ≡ with_nodes g.origin (front done ++ behind done todo)
    pub count : made ≡ hi + length (next_level job done)
    pub here : k ≡ length g.before + length done
    pub paved : Paved (between t (c# w) (circles# w)) limit (n# w + added) g.base g.fore g.rear work (gone past ++ ahead)
    pub wait : keep (waits limit) (runs_of todo) ≡ keep (waits limit) (placed (g.base + length (joined (gone past))) ahead)

  -- the nodes before k are opened
  pub record Levelling (room work : List ℕ) (made k : ℕ) : Type 0 where
    pub done : List Piece
    pub todo : List Piece
    pub past : List (List ℕ)
    pub ahead : List (List ℕ)
    pub half : Half done todo past ahead room work made k

  -- a node that is opened has a child
  pub two : 2 ≤ m# w
  two = g.change.shape.whole.fan.0

  -- ---- one node more is opened, and its words are x
  front-more : (done : List Piece) (q : Piece) (x : Node) (ns : List Node)
      → level_out_lem job hi (done ++ q ∷ []) ≡ level_out_lem job hi done ++ x ∷ [] → front done ++ x ∷ ns ≡ front (done ++ q ∷ []) ++ ns
  front-more done q x ns e =
      sym (append_assoc (front done) (x ∷ []) ns)
      ∙ ap (λ (y : List Node). y ++ ns) (append_assoc g.before (level_out_lem job hi done) (x ∷ []) ∙ ap (λ (y : List Node). g.before ++ y) (sym e))

  -- ---- the node of piece q, which is the next
  module _ {done : List Piece} {q : Piece} {rest : List Piece} {past ahead : List (List ℕ)} {room work : List ℕ} {made k : ℕ}
      (half : Half done (q ∷ rest) past ahead room work made k) where
    -- it is one that can stay, or a run
    pub sound-is : Sound job (nodes# w) (suc g.deep) q
    sound-is =
        (every-right (λ p. Sound job (nodes# w) (suc g.deep) p) done (q ∷ rest)
        (subst (Every (λ p. Sound job (nodes# w) (suc g.deep) p)) half.all g.stage.sound)).0

    -- k nodes stand before it
    front_long : length (front done) ≡ k
    front_long = length-append g.before (level_out_lem job hi done) ∙ omega (arith, out_long job hi done, half.here)

    -- and as many behind it as pieces wait and as children there are
    behind-long : length (behind done rest) ≡ length rest + length (next_level job done)
    behind-long =
        length-append (map (pending job) rest) (map (pending job) (next_level job done))
        ∙ ap₂ ◌+◌ (length-map rest (pending job)) (length-map (next_level job done) (pending job))

    -- the level's pieces: those done, this one, and the rest
    pub items_long : length g.items ≡ length done + (1 + length rest)
    items_long = ap length half.all ∙ length-append done (q ∷ rest) ∙ omega arith

    -- `made` nodes in all, whatever its words are
    all-long : (x : Node) → length (front done ++ x ∷ behind done rest) ≡ made
    all-long x =
        length-append (front done) (x ∷ behind done rest)
        ∙ omega (arith, front_long, behind-long, items_long, half.count, half.here, g.stage.last)

    -- with its children they are among those that are to be
    pub made-few : made + length (parts job q) ≤ g.most
    made-few =
        let later : List Piece = next_level job g.items in
        let more : length later ≡ length (next_level job done) + (length (parts job q) + length (next_level job rest)) =
        ap (λ (x : List Piece). length (next_level job x)) half.all ∙ ap length (each_append (parts job) done (q ∷ rest))
        ∙ length-append (next_level job done) (parts job q ++ next_level job rest)
        ∙ ap (λ (i : ℕ). length (next_level job done) + i) (length-append (parts job q) (next_level job rest)) in
        omega (
          arith,
          half.count,
          more,
          g.stage.last,
          g.stage.few,
          all_more job g.deep hi g.items,
          all-some job g.deep (hi + length later) later,
        )

    -- there is room for a header
    header-fits : 8 ≤ length g.origin
    header-fits = omega (arith, g.stage.space)

    -- the room is as long as it was
    pub long : length room ≡ length g.origin
    long =
        let ns : List Node = front done ++ behind done (q ∷ rest) in
        let fits : node_at_lem (length ns) ≤ length g.origin = omega (arith, all-long (pending job q), made-few, g.stage.space) in
        ap length half.nodes ∙ room-long g.origin header-fits ns fits

    -- its start is read
    pub start_is : start# room k ≡ (pending job q).0
    start_is =
        let x : Node = pending job q in
        ap₂ start# half.nodes (sym front_long) ∙ read-start g.origin header-fits (front done) x.0 x.1 x.2 x.3 (behind done rest)

    -- its count
    pub count-is : count# room k ≡ (pending job q).1
    count-is =
        let x : Node = pending job q in
        ap₂ count# half.nodes (sym front_long) ∙ read_count g.origin header-fits (front done) x.0 x.1 x.2 x.3 (behind done rest)

    -- and its first child in the old index
    pub child-is : child# room k ≡ (pending job q).2
    child-is =
        let x : Node = pending job q in
        ap₂ child# half.nodes (sym front_long) ∙ read-child g.origin header-fits (front done) x.0 x.1 x.2 x.3 (behind done rest)

    -- ---- it has no parts, and stays as it is
    pub half-stays : parts job q ≡ []
        → keep (waits limit) (runs_of rest) ≡ keep (waits limit) (placed (g.base + length (joined (gone past))) ahead)
        → Half (done ++ q ∷ []) rest past ahead room work made (k + 1)
    half-stays e wait =
        let next : next_level job (done ++ q ∷ []) ≡ next_level job done =
        next_last job done q ∙ ap (λ (x : List Piece). next_level job done ++ x) e ∙ append-nil (next_level job done) in
        let out : level_out_lem job hi (done ++ q ∷ []) ≡ level_out_lem job hi done ++ pending job q ∷ [] =
        out-last job hi done q
        ∙ ap (λ (x : List Piece). level_out_lem job hi done ++ with_kids (hi + length (next_level job done)) (pending job q) x ∷ []) e in
        record {
          all = half.all ∙ sym (append_assoc done (q ∷ []) rest);
          runs = half.runs;
          nodes =
              half.nodes
              ∙ ap (with_nodes g.origin) (front-more done q (pending job q) (behind done rest) out
              ∙ ap (λ (y : List Piece). front (done ++ q ∷ []) ++ (map (pending job) rest ++ map (pending job) y)) (sym next));
          count = half.count ∙ ap (λ (x : List Piece). hi + length x) (sym next);
          here = omega (arith, half.here, length-append done (q ∷ []));
          paved = half.paved;
          wait = wait;
        }

    -- ---- it has the parts `kids`, whose words are written behind the last node
    module _ (kids : List Piece) (e : parts job q ≡ kids) (some : 1 ≤ length kids) where
      -- its words then
      node : Node
      node = ((pending job q).0, (pending job q).1, made, (pending job q).3)

      -- the nodes then
      abbrev nodes : List Node
      nodes = front done ++ node ∷ behind done rest

      -- the first child's number is written
      set_is : set room (node_at_lem k + 2) made ≡ with_nodes g.origin nodes
      unfolding node
      set_is =
          let x : Node = pending job q in
          ap₂ (λ (y : List ℕ) (i : ℕ). set y (node_at_lem i + 2) made) half.nodes (sym front_long)
          ∙ child-set g.origin header-fits (front done) x.0 x.1 x.2 x.3 (behind done rest) made

      -- its node stands last among those that are opened
      out-is : level_out_lem job hi (done ++ q ∷ []) ≡ level_out_lem job hi done ++ node ∷ []
      unfolding node
      out-is =
          out-last job hi done q
          ∙ ap₂ (λ (x : List Piece) (i : ℕ). level_out_lem job hi done ++ with_kids i (pending job q) x ∷ []) e (sym half.count)
          ∙ ap (λ (x : Node). level_out_lem job hi done ++ x ∷ []) (kids-some made (pending job q) kids some)

      -- its parts stand last on the level below
      next-is : next_level job (done ++ q ∷ []) ≡ next_level job done ++ kids
      next-is = next_last job done q ∙ ap (λ (x : List Piece). next_level job done ++ x) e

      -- so that the nodes are those of the level with one piece more opened
      nodes_are : nodes ++ map (pending job) kids ≡ front (done ++ q ∷ []) ++ behind (done ++ q ∷ []) rest
      nodes_are =
          let new : List Node = map (pending job) kids in
          let R : List Node = map (pending job) rest in
          let M : List Node = map (pending job) (next_level job done) in
          let more : M ++ new ≡ map (pending job) (next_level job (done ++ q ∷ [])) =
          sym (map-append (pending job) (next_level job done) kids) ∙ ap (map (pending job)) (sym next-is) in
          append_assoc (front done) (node ∷ behind done rest) new ∙ front-more done q node (behind done rest ++ new) out-is
          ∙ ap (λ (x : List Node). front (done ++ q ∷ []) ++ x) (append_assoc R M new ∙ ap (λ (x : List Node). R ++ x) more)

      -- it is opened
      pub half-grows : {m r : ℕ} {room' work' : List ℕ} (past' ahead' : List (List ℕ)) → length kids ≡ m → r ≡ made + m
          → room' ≡ take (node_at_lem made) (set room (node_at_lem k + 2) made)
          ++ (each (node_words 2) (map (pending job) kids) ++ drop (node_at_lem (made + m)) (set room (node_at_lem k + 2) made))
          → g.tiles ≡ past' ++ ahead'
          → Paved (between t (c# w) (circles# w)) limit (n# w + added) g.base g.fore g.rear work' (gone past' ++ ahead')
          → keep (waits limit) (runs_of rest) ≡ keep (waits limit) (placed (g.base + length (joined (gone past'))) ahead')
          → Half (done ++ q ∷ []) rest past' ahead' room' work' r (k + 1)
      half-grows {m} {r} {room'} past' ahead' many er er' runs paved wait =
          let room_is : room' ≡ with_nodes g.origin (nodes ++ map (pending job) kids) =
          nodes-added g.origin header-fits nodes (map (pending job) kids) made m (all-long node)
          (length-map kids (pending job) ∙ many) set_is er' in
          record {
            all = half.all ∙ sym (append_assoc done (q ∷ []) rest);
            runs = runs;
            nodes = room_is ∙ ap (with_nodes g.origin) nodes_are;
            count = omega (arith, er, half.count, ap length next-is, length-append (next_level job done) kids, many);
            here = omega (arith, half.here, length-append done (q ∷ []));
            paved = paved;
            wait = wait;
          }
