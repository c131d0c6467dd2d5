-- What is looked up in a registry at a moment: what everybody may, and a registrar's account.
use Rattle.std.specs.Prelude.{◌≡◌, ℕ, max, true, List, Some, None}
use Rattle.concerns.specs.DueFor.{due_for}
use Rattle.concerns.specs.Names.{named_by, named_of}
use Rattle.isolation.specs.Public.{IsPublic}
use Rattle.model.specs.DueBy.{due_by}
use Rattle.model.specs.Lapse.{at, lapsed, now}
use Rattle.model.specs.Registry.{Registry}
use Rattle.model.specs.Zone.{zone_data}
use Rattle.objects.specs.declared.roid.ObjectKind.{ObjectKind}
use Rattle.policy.specs.Rules.{PolicyRules}
use Rattle.protocol.specs.declared.command.Command.{Command}
use Rattle.protocol.specs.declared.command.Command.TheVariants.{Asked}
use Rattle.protocol.specs.declared.command.Request.TheVariants.{Balance}
use Rattle.registry.specs.Lapsing.{dues_lapsed}
use Rattle.books.specs.Book.{BookState}
use Rattle.books.specs.Faces.{contact_face_at, domain_face_at, host_face_at}

-- ---- what lapses before a look-up, where the clock is at a moment

-- what an info of the object concerns
abbrev pub lapsing_at : PolicyRules → ObjectKind → List ℕ → ℕ → Registry → Registry
lapsing_at p kind name t s = dues_lapsed p t (due_for p None (named_of kind name) t s) s

-- a registrar's question for its balance, which concerns what bears on its account
abbrev pub balance_command : Command
balance_command = Asked None Balance

-- what concerns a registrar
abbrev pub lapsing_of : PolicyRules → ℕ → ℕ → Registry → Registry
lapsing_of p r t s = dues_lapsed p t (due_for p (Some r) (named_by balance_command) t s) s

-- all that is due
abbrev pub lapsing_all : PolicyRules → ℕ → Registry → Registry
lapsing_all p t s = dues_lapsed p t (due_by p t s) s

-- ---- a look-up

-- What is answered is what is found in the registry at that moment, and nothing is done but that the clock moves, and
-- just this lapses.
pub record IsLookUp {X : Type 0} (p : PolicyRules) (find : Registry → X) (lapsing : ℕ → Registry → Registry) (moment : ℕ) (before after : Registry) (found : X) : Type 0 where
  pub answer_is : found ≡ find (lapsed p moment before)
  pub left : now p after ≡ now p (lapsed p moment before)
  pub waits : after ≡ lapsing (max moment before.clock) (at (max moment before.clock) before)

-- so it is in a book's registry, if nothing wrong was taken from what keeps it
abbrev pub LooksUp : {X : Type 0} → PolicyRules → (Registry → X) → (ℕ → Registry → Registry) → ℕ → X
    → BookState → BookState → Type 0
LooksUp p find lapsing moment found old new =
    new.is_clean ≡ true
    → IsLookUp p find lapsing moment old.content.registry new.content.registry found

-- ---- what everybody may look up

-- What these find is read off the public part: the face under a name (RFC 9083, 5.1 to 5.3), and the
-- data of the zone (RFC 1035, 5.1).
pub record ArePublic (p : PolicyRules) : Type 0 where
  pub domain : (name : List ℕ) → IsPublic p (λ s. domain_face_at p s name)
  pub host : (name : List ℕ) → IsPublic p (λ s. host_face_at p s name)
  pub contact : (name : List ℕ) → IsPublic p (λ s. contact_face_at s name)
  pub zone : IsPublic p (zone_data p.zone)

abbrev pub LookUpsArePublic : Type 0
LookUpsArePublic = (p : PolicyRules) → ArePublic p
