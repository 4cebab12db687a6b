-- The refusals that were worked out by hand are those that the definition says. Assumes nothing.
use Rattle.append_rows_refusals.specs.Cases.{circles, right, rooms, tables, words}
use Rattle.append_rows_refusals.specs.Numbers.{said_append_rows}
use Rattle.laws.specs.Lists.{all}
use Rattle.limits.specs.Said.{number_faults}
use Rattle.measure.specs.Table.{off_circle_lem}
use Rattle.refusals.specs.Refused.{circle_faults}
use Rattle.words.specs.Index.{fit_faults}
use Rattle.words.specs.Shape.{born, level, node_ok_lem, shape_ok_lem, tile}
use Rattle.words.specs.Words.{card_ok_lem, header_ok_lem, words_ok_lem}
use mathlib.Core.Bool.{true}
use mathlib.Core.Path.{◌≡◌, refl}

-- by the table
pub tables-right : all right tables ≡ true
unfolding said_append_rows number_faults fit_faults circle_faults off_circle_lem words_ok_lem header_ok_lem card_ok_lem shape_ok_lem born node_ok_lem level tile
tables-right = refl

-- by the rooms
pub rooms-right : all right rooms ≡ true
unfolding said_append_rows number_faults fit_faults circle_faults off_circle_lem words_ok_lem header_ok_lem card_ok_lem shape_ok_lem born node_ok_lem level tile
rooms-right = refl

-- by the words
pub words_right : all right words ≡ true
unfolding said_append_rows number_faults fit_faults circle_faults off_circle_lem words_ok_lem header_ok_lem card_ok_lem shape_ok_lem born node_ok_lem level tile
words_right = refl

-- by the circles
pub circles-right : all right circles ≡ true
unfolding said_append_rows number_faults fit_faults circle_faults off_circle_lem words_ok_lem header_ok_lem card_ok_lem shape_ok_lem born node_ok_lem level tile
circles-right = refl
