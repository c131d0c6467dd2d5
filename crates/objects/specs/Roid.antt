-- The texts of repository object identifiers (RFC 5730, 2.8).
use Rattle.std.specs.Prelude.{ℕ, List, ◌++◌, codes, decimal}
use Rattle.objects.specs.declared.roid.ObjectKind.{ObjectKind}
use Rattle.objects.specs.declared.roid.ObjectKind.TheVariants.{Contact, Domain, Host}
use Rattle.objects.specs.declared.roid.Roid.{Roid}

abbrev pub letter_of : ObjectKind → List ℕ
letter_of Contact = codes "C"
letter_of Domain = codes "D"
letter_of Host = codes "H"

-- the kind, who created the object, its creator's number for it, and the registry
abbrev pub roid_text : Roid → List ℕ
roid_text r = letter_of r.kind ++ decimal r.creator ++ codes "_" ++ decimal r.serial ++ codes "-REG"
