-- `column_names::has_name`: there is no field, or it is compared.
use Rattle.column_names.proofs.Names.{named-none, named-told}
use Rattle.column_names.proofs.has_name.Goals as goal

pub returns-in-Some : goal.returns-in-Some
returns-in-Some c = named-told _ _ _ c.in-Some.ensures c.bytes_of.ensures c.eq.ensures

pub returns-in-None : goal.returns-in-None
returns-in-None c = named-none _ _ _ c.in-None.ensures
