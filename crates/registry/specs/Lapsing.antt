-- How what is due lapses in a book: one object after another, each as it is by then.
use Rattle.std.specs.Prelude.{ℕ, List, fold}
use Rattle.accounts.specs.declared.message.Subject.TheVariants as subjects
use Rattle.books.specs.Book.{Stored}
use Rattle.lifecycle.specs.declared.due_object.Due.{Due}
use Rattle.model.specs.Lapse.{lapse_one}
use Rattle.model.specs.Registry.{Registry}
use Rattle.objects.specs.declared.roid.ObjectKind.{ObjectKind}
use Rattle.objects.specs.declared.roid.ObjectKind.TheVariants as kinds
use Rattle.policy.specs.Rules.{PolicyRules}

-- a host doesn't lapse
abbrev pub object_lapsed : PolicyRules → ℕ → ObjectKind → List ℕ → Registry → Registry
object_lapsed p t kinds.Contact name s = lapse_one p t subjects.Contact name s
object_lapsed p t kinds.Domain name s = lapse_one p t subjects.Domain name s
object_lapsed p t kinds.Host name s = s

abbrev pub dues_lapsed : PolicyRules → ℕ → List Due → Registry → Registry
dues_lapsed p t ds s = fold (λ s d. object_lapsed p t d.kind d.name s) s ds

abbrev pub with_dues_lapsed : PolicyRules → ℕ → List Due → Stored → Stored
with_dues_lapsed p t ds held = record held { registry = dues_lapsed p t ds held.registry }
