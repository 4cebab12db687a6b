-- The cases come out as they should, group by group, so that a message shows which does not. Assumes nothing.
use Rattle.laws.specs.Lists.{all}
use Rattle.tree.specs.Cases.{checked, grown, right, seam, sought, swept, withdrawn}
use lib.Dec.{T}

pub grown-right : T (all right grown)
unfolding right
grown-right = tt

pub swept-right : T (all right swept)
unfolding right
swept-right = tt

pub sought-right : T (all right sought)
unfolding right
sought-right = tt

pub seam-right : T (all right seam)
unfolding right
seam-right = tt

pub withdrawn-right : T (all right withdrawn)
unfolding right
withdrawn-right = tt

pub checked-right : T (all right checked)
unfolding right
checked-right = tt
