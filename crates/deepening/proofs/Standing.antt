-- Pieces that stand one behind the other: how many words, two stretches of them, one among the others, and where each starts. Assumes nothing.
use Prim.Native.Nat.{◌*◌, ◌+◌, ◌≤◌, ℕ}
use Rattle.dealing.specs.Pending.{StandAll, size_of, sizes}
use Rattle.deepening.specs.Tiles.{Follow}
use Rattle.laws.specs.Every.{Every}
use Rattle.lodging.specs.Standing.{Stands}
use Rattle.opening.proofs.Waited.{leaf_stands}
use Rattle.opening.specs.Sound.{waits}
use Rattle.swelling.specs.Pieces.{Piece, start_of}
use Rattle.words.specs.Words.{c#}
use lib.ListN.{drop, length, length-append, length-drop, take, take-append-drop}
use lib.Seq.{drop-append-le, drop_at, length-take-le, take-append-le, take_at}
use mathlib.Core.Bool.{Bool, false}
use mathlib.Core.List.{List, [], ◌++◌, ◌∷◌, append_assoc}
use mathlib.Core.Path.{◌∙◌, ◌≡◌, ap, refl, subst, sym}
use native.Mathlib.Nat.{add-zero}
use native.Mathlib.Omega.{arith}

module _ (t w : List ℕ) (last : Bool) where
  -- three words a row
  pub stand-long : (qs : List Piece) (ws : List ℕ) → StandAll t w last qs ws → length ws ≡ 3 * sizes w qs
  stand-long [] ws h = ap length h
  stand-long (q ∷ qs) ws h =
      let k : ℕ = 3 * size_of w q in omega (arith, stand-long qs (drop k ws) h.2, length-drop k ws, h.0)

  -- two stretches of them
  pub stand-append : (ps qs : List Piece) (xs ys : List ℕ) → StandAll t w last ps xs → StandAll t w last qs ys
      → StandAll t w last (ps ++ qs) (xs ++ ys)
  stand-append [] qs xs ys a b = subst (λ (x : List ℕ). StandAll t w last qs (x ++ ys)) (sym a) b
  stand-append (p ∷ ps) qs xs ys a b =
      let k : ℕ = 3 * size_of w p in (
        omega (arith, a.0, length-append xs ys),
        subst (Stands t (c# w) w last p) (sym (take-append-le k xs ys a.0)) a.1,
        subst (StandAll t w last (ps ++ qs)) (sym (drop-append-le k xs ys a.0)) (stand-append ps qs (drop k xs) ys a.2 b),
      )

  -- one among the others
  pub record Cut (ps : List Piece) (q : Piece) (qs : List Piece) (ws : List ℕ) : Type 0 where
    pub lead : List ℕ
    pub own : List ℕ
    pub tail : List ℕ
    pub whole : ws ≡ lead ++ (own ++ tail)
    pub front : StandAll t w last ps lead
    pub size : length own ≡ 3 * size_of w q
    pub stands : Stands t (c# w) w last q own
    pub back : StandAll t w last qs tail

  pub stand-cut : (ps : List Piece) (q : Piece) (qs : List Piece) (ws : List ℕ) → StandAll t w last (ps ++ q ∷ qs) ws → Cut ps q qs ws
  stand-cut [] q qs ws h =
      let k : ℕ = 3 * size_of w q in
      record {
        lead = [];
        own = take k ws;
        tail = drop k ws;
        whole = sym (take-append-drop k ws);
        front = refl;
        size = length-take-le k ws h.0;
        stands = h.1;
        back = h.2;
      }
  stand-cut (p ∷ ps) q qs ws h =
      let k : ℕ = 3 * size_of w p in
      let r = stand-cut ps q qs (drop k ws) h.2 in
      let long : length (take k ws) ≡ k = length-take-le k ws h.0 in
      record {
        lead = take k ws ++ r.lead;
        own = r.own;
        tail = r.tail;
        whole =
            sym (take-append-drop k ws) ∙ ap (λ (x : List ℕ). take k ws ++ x) r.whole
            ∙ sym (append_assoc (take k ws) r.lead (r.own ++ r.tail));
        front = (
          omega (arith, length-append (take k ws) r.lead, long),
          subst (Stands t (c# w) w last p) (sym (take_at (take k ws) r.lead k long)) h.1,
          subst (StandAll t w last ps) (sym (drop_at (take k ws) r.lead k long)) r.front,
        );
        size = r.size;
        stands = r.stands;
        back = r.back;
      }

-- leaves stand alike on any level
pub leaves_stand : (t w : List ℕ) (a b : Bool) (qs : List Piece) (ws : List ℕ) → Every (λ q. waits w q ≡ false) qs → StandAll t w a qs ws
    → StandAll t w b qs ws
leaves_stand t w a b [] ws e h = h
leaves_stand t w a b (q ∷ qs) ws e h =
    let k : ℕ = 3 * size_of w q in
    (h.0, leaf_stands t w a b q (take k ws) e.0 h.1, leaves_stand t w a b qs (drop k ws) e.1 h.2)

-- where none is empty, they are at most as many as their rows
pub few_sizes : (w : List ℕ) (qs : List Piece) → Every (λ q. 1 ≤ size_of w q) qs → length qs ≤ sizes w qs
few_sizes w [] h = omega arith
few_sizes w (q ∷ qs) h = omega (arith, few_sizes w qs h.1, h.0)

-- ---- where they start
pub follow_at : (w : List ℕ) (s : ℕ) (ps : List Piece) (q : Piece) (qs : List Piece) → Follow w s (ps ++ q ∷ qs) → start_of q ≡ s + sizes w ps
follow_at w s [] q qs h = h.0 ∙ sym (add-zero s)
follow_at w s (p ∷ ps) q qs h =
    let e : s + size_of w p + sizes w ps ≡ s + (size_of w p + sizes w ps) = omega arith in follow_at w (s + size_of w p) ps q qs h.1 ∙ e

-- two stretches of them
pub follow_append : (w : List ℕ) (s : ℕ) (ps qs : List Piece) → Follow w s ps → Follow w (s + sizes w ps) qs → Follow w s (ps ++ qs)
follow_append w s [] qs a b = subst (λ (i : ℕ). Follow w i qs) (add-zero s) b
follow_append w s (p ∷ ps) qs a b =
    let e : s + (size_of w p + sizes w ps) ≡ s + size_of w p + sizes w ps = omega arith in
    (a.0, follow_append w (s + size_of w p) ps qs a.1 (subst (λ (i : ℕ). Follow w i qs) e b))
