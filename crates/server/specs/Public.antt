-- What is made of what everyone may know of a registry: answers over HTTP, and zones.
use Rattle.std.specs.Prelude.{◌≡◌, ℕ, List}
use Rattle.isolation.specs.Public.{public_part}
use Rattle.model.specs.Lapse.{lapsed}
use Rattle.model.specs.Registry.{Registry}
use Rattle.model.specs.Zone.{zone_data}
use Rattle.policy.specs.Rules.{PolicyRules}
use Rattle.rdap.specs.Answering.{IsAnswer}
use Rattle.server.specs.ZoneExport.{zone_at}
use Rattle.server.specs.Http.{faces_at}

-- two registries of which everyone may know the same at a moment
pub record IsSameToEveryone (p : PolicyRules) (moment : ℕ) (one other : Registry) : Type 0 where
  pub faces : faces_at p moment one ≡ faces_at p moment other
  pub zone : zone_data p.zone (lapsed p moment one) ≡ zone_data p.zone (lapsed p moment other)

-- as two have of one public part
abbrev pub PublicPartsLookSame : Type 0
PublicPartsLookSame =
    (p : PolicyRules) (moment : ℕ) (one other : Registry)
    → public_part p (lapsed p moment one) ≡ public_part p (lapsed p moment other)
    → IsSameToEveryone p moment one other

-- They give equal answers to one head, and one zone.
abbrev pub PublicTextsAgree : Type 0
PublicTextsAgree =
    (p : PolicyRules) (moment : ℕ) (one other : Registry) → IsSameToEveryone p moment one other
    → ((head answer second : List ℕ) → IsAnswer p (faces_at p moment one) head answer → IsAnswer p (faces_at p moment other) head second → answer ≡ second)
    × (zone_at p moment one ≡ zone_at p moment other)
