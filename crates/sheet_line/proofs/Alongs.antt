-- One byte more of a line, told in steps. Assumes nothing.
use Rattle.sheet_fields.specs.declared.Kind.{Kind}
use Rattle.line_reading.specs.InLine.{along, begins, blank_at, moved, settled, settled_at}
use Rattle.line_reading.specs.declared.Line.{Line}
use Rattle.line_reading.specs.declared.Place.{Place}
use mathlib.Core.Bool.{Bool, ◌&&◌, ◌||◌}
use mathlib.Core.Path.{◌∙◌, ◌≡◌, ap, sym}

-- ---- a byte
-- the line after a byte that is known
pub along-at : (l : Line) (k k' : Kind) (l' : Line) → k ≡ k' → l' ≡ along l k' → l' ≡ along l k
along-at l k k' l' e h = h ∙ ap (along l) (sym e)

-- ---- a field ends
module _ (l : Line) (p : Place) (l' : Line) where
  -- in the place that the line has
  pub settled-in : l.place ≡ p → l' ≡ settled_at p l → l' ≡ settled l
  settled-in e h = h ∙ ap (λ (x : Place). settled_at x l) (sym e)

  -- by a blank
  pub blank-in : l.place ≡ p → l' ≡ blank_at p l → l' ≡ blank_at l.place l
  blank-in e h = h ∙ ap (λ (x : Place). blank_at x l) (sym e)

-- a byte of a field
pub moved_to : (l : Line) (p : Place) (figure begins·now f : Bool) → begins·now ≡ begins l.place → f ≡ (l.figure || (figure && begins·now))
    → record { place = p; figure = f; count = l.count; row = l.row; numbers = l.numbers; names = l.names; label = l.label } ≡ moved l p figure
unfolding moved
moved_to l p figure begins·now f e h = rw (h, e)
