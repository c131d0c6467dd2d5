-- The text of a fault of the policy file.
use Rattle.std.specs.Prelude.{ℕ, List, ◌++◌, codes}
use Rattle.policy.specs.declared.fault.PolicyFault.{PolicyFault}
use Rattle.policy.specs.declared.fault.PolicyFault.TheVariants.{NotToml, Missing, Range, Twice, Memory}
use Rattle.policy.specs.Keys.{key_text}

abbrev pub fault_text : PolicyFault → List ℕ
fault_text NotToml = codes "not TOML"
fault_text (Missing key) = codes "missing " ++ key_text key
fault_text (Range key) = codes "range " ++ key_text key
fault_text (Twice id) = codes "twice " ++ id
fault_text Memory = codes "out of memory"
