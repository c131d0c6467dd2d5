-- A list that is read item by item.
use Rattle.std.proofs.Common.{List, ◌++◌, Result, Ok, Err}
use Rattle.protocol.specs.declared.form.FormFault.{FormFault}

-- what was read before stands before the rest
abbrev pub after : {A : Type 0} → List A → Result (List A) FormFault → Result (List A) FormFault
after xs (Ok ys) = Ok (xs ++ ys)
after xs (Err code) = Err code
