-- What lapses posts into accounts, and that is made behind all else.
use Rattle.std.specs.Prelude.{◌≡◌, ◌++◌, ℕ, true, List, [], ◌∷◌, Option, Some, None}
use Rattle.accounts.specs.declared.entries.Posting.{Posting}
use Rattle.books.specs.Book.{BookState, with_changes}
use Rattle.decisions.specs.declared.change.Change.{Change}
use Rattle.decisions.specs.declared.change.Change.TheVariants.{LapseContact, LapseDomain}
use Rattle.lifecycle.specs.declared.due_object.Due.{Due}
use Rattle.lifecycle.specs.Lapse.{lapse, lapse_contact}
use Rattle.model.specs.declared.object.Object.{Object}
use Rattle.model.specs.declared.object.Object.TheVariants as objects
use Rattle.model.specs.Objects.{object_at}
use Rattle.policy.specs.Rules.{PolicyRules}
use Rattle.registry.specs.inner.Steps.{IsWithin}

-- what becomes of the object under a name; a host doesn't lapse
abbrev pub lapse_changes : PolicyRules → ℕ → List ℕ → Option Object → List Change
lapse_changes p t name None = []
lapse_changes p t name (Some (objects.Contact c)) = LapseContact name (lapse_contact t c).object ∷ []
lapse_changes p t name (Some (objects.Domain d)) = LapseDomain name (lapse p t d).object ∷ []
lapse_changes p t name (Some (objects.Host h)) = []

-- what that posts
abbrev pub lapse_postings : PolicyRules → ℕ → Option Object → List Posting
lapse_postings p t None = []
lapse_postings p t (Some (objects.Contact c)) = (lapse_contact t c).postings
lapse_postings p t (Some (objects.Domain d)) = (lapse p t d).postings
lapse_postings p t (Some (objects.Host h)) = []

abbrev pub object_of : Due → BookState → Option Object
object_of due s = object_at s.content.registry due.kind due.name

-- An object has lapsed, but for what that posts, which comes to what others did.
pub record HasLapsed (p : PolicyRules) (t : ℕ) (due : Due) (postings more : List Posting) (old new : BookState) : Type 0 where
  pub within : IsWithin old new
  pub content : new.is_clean ≡ true → new.content ≡ with_changes p (lapse_changes p t due.name (object_of due old)) old.content
  pub posted : new.is_clean ≡ true → more ≡ postings ++ lapse_postings p t (object_of due old)
