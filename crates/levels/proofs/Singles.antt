-- The numbering is that of the levels. Assumes nothing.
use Prim.Native.Nat.{◌+◌, suc, zero, ℕ}
use Rattle.laws.proofs.Joins.{each_append}
use Rattle.laws.specs.Lists.{each}
use Rattle.levels.specs.Singles.{Single, kids_of, level_of, levels_of, lower, singles, words_at}
use Rattle.limits.specs.Limits.{max_depth}
use Rattle.tree.specs.Encode.{Node, below, broods, family, level_nodes, nodes, numbered, span, spans}
use Rattle.tree.specs.Grove.{Grove, bare, entries, fork, leaf}
use lib.ListN.{length, length-append}
use mathlib.Core.List.{List, [], ◌++◌, ◌∷◌, append-nil}
use mathlib.Core.Path.{◌∙◌, ◌≡◌, ap, ap₂, refl, sym}
use native.Mathlib.Nat.{add-zero}
use native.Mathlib.Omega.{arith}

-- the families of a level as single nodes
abbrev flat : List Single → List Single
flat fs = each (λ f. singles f.0 f.1) fs

-- a node a place
pub singles-length : (s : ℕ) (g : Grove) → length (singles s g) ≡ span g
unfolding singles
singles-length s bare = refl
singles-length s (leaf R es g) = ap suc (singles-length (s + length es) g)
singles-length s (fork R ks g) = ap suc (singles-length (s + length (entries ks)) g)

flat_length : (fs : List Single) → length (flat fs) ≡ spans fs
flat_length [] = refl
flat_length (f ∷ fs) = omega (arith, length-append (singles f.0 f.1) (flat fs), singles-length f.0 f.1, flat_length fs)

-- the children of nodes side by side are their broods
kids-broods : (s : ℕ) (g : Grove) → lower (singles s g) ≡ flat (broods s g)
unfolding singles broods
kids-broods s bare = refl
kids-broods s (leaf R es g) = kids-broods (s + length es) g
kids-broods s (fork R ks g) = ap (λ (l : List Single). singles s ks ++ l) (kids-broods (s + length (entries ks)) g)

-- a family's nodes
family_out : (next s : ℕ) (g : Grove) → family next s g ≡ level_of next (singles s g)
unfolding family singles level_of
family_out next s bare = refl
family_out next s (leaf R es g) =
    ap (λ (l : List Node). (s, length es, 0, R) ∷ l)
    (family_out next (s + length es) g ∙ ap (λ (k : ℕ). level_of k (singles (s + length es) g)) (sym (add-zero next)))
family_out next s (fork R ks g) =
    let n : ℕ = length (entries ks) in
    ap (λ (l : List Node). (s, n, next, R) ∷ l)
    (family_out (next + span ks) (s + n) g ∙ ap (λ (k : ℕ). level_of (next + k) (singles (s + n) g)) (sym (singles-length s ks)))

-- two parts of a level
out_append : (next : ℕ) (xs ys : List Single) → level_of next (xs ++ ys) ≡ level_of next xs ++ level_of (next + length (lower xs)) ys
unfolding level_of
out_append next [] ys = ap (λ (k : ℕ). level_of k ys) (sym (add-zero next))
out_append next (x ∷ xs) ys =
    let k : List Single = kids_of x.0 x.1 in
    ap (λ (l : List Node). words_at next x.0 x.1 ∷ l)
    (out_append (next + length k) xs ys
    ∙ ap (λ (j : ℕ). level_of (next + length k) xs ++ level_of j ys) (omega (arith, length-append k (lower xs))))

-- a level's nodes
level_out : (next : ℕ) (fs : List Single) → level_nodes next fs ≡ level_of next (flat fs)
unfolding level_nodes level_of
level_out next [] = refl
level_out next (f ∷ fs) =
    let g : List Single = singles f.0 f.1 in
    let e : length (lower g) ≡ spans (broods f.0 f.1) = ap length (kids-broods f.0 f.1) ∙ flat_length (broods f.0 f.1) in
    ap₂ (λ (a b : List Node). a ++ b) (family_out next f.0 f.1)
    (level_out (next + spans (broods f.0 f.1)) fs ∙ ap (λ (k : ℕ). level_of (next + k) (flat fs)) (sym e))
    ∙ sym (out_append next g (flat fs))

-- the level below
below_flat : (fs : List Single) → lower (flat fs) ≡ flat (below fs)
below_flat [] = refl
below_flat (f ∷ fs) =
    each_append (λ q. kids_of q.0 q.1) (singles f.0 f.1) (flat fs)
    ∙ ap₂ (λ (a b : List Single). a ++ b) (kids-broods f.0 f.1) (below_flat fs)
    ∙ sym (each_append (λ f. singles f.0 f.1) (broods f.0 f.1) (below fs))

-- all levels
nodes_out : (deep next : ℕ) (fs : List Single) → nodes deep next fs ≡ levels_of deep next (flat fs)
unfolding nodes levels_of
nodes_out zero next fs = level_out next fs
nodes_out (suc deep) next fs =
    let e : length (lower (flat fs)) ≡ spans (below fs) = ap length (below_flat fs) ∙ flat_length (below fs) in
    ap₂ (λ (a b : List Node). a ++ b) (level_out next fs)
    (nodes_out deep (next + spans (below fs)) (below fs)
    ∙ ap₂ (λ (k : ℕ) (l : List Single). levels_of deep (next + k) l) (sym e) (sym (below_flat fs)))

-- A TREE'S NODES IN NUMBER ORDER ARE THOSE OF ITS LEVELS
pub numbered-items : (t : Grove) → numbered t ≡ levels_of max_depth (span t) (singles 0 t)
unfolding numbered
numbered-items t = nodes_out max_depth (span t) ((0, t) ∷ []) ∙ ap (levels_of max_depth (span t)) (append-nil (singles 0 t))
