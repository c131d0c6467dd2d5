-- What a zone keeps.
use Rattle.std.specs.Prelude.{ℕ, Bool, false, not, ◌&&◌, ◌||◌, List, [], ◌∷◌, ◌++◌, Option, Some, option_map, None, if◌then◌else◌}
use Rattle.std.specs.FinSet.{contains}
use Rattle.std.specs.List.{list_any}
use Rattle.std.specs.Str.{bytes_eq}
use Rattle.basis.specs.Sets.{Names}
use Rattle.names.specs.Labels.{is_dot}

-- the label of the zone, and the labels that no domain in it may have
pub record ZoneRules : Type 0 where
  pub label : List ℕ
  pub reserved : Names

abbrev pub is_reserved : ZoneRules → List ℕ → Bool
is_reserved zone label = contains zone.reserved label

abbrev pub has_dot : List ℕ → Bool
has_dot name = list_any is_dot name

abbrev pub cut_before : ℕ → List ℕ → Option (List ℕ × List ℕ) → Option (List ℕ × List ℕ)
cut_before b rest (Some parts) = Some (b ∷ parts.0, parts.1)
cut_before b rest None = if is_dot b then Some ([], rest) else None

-- the part before the last dot of a name, and its last label; none of a name of one label
unfoldable pub cut_last : List ℕ → Option (List ℕ × List ℕ)
cut_last [] = None
cut_last (b ∷ rest) = cut_before b rest (cut_last rest)

infixl 10 ◌>>=◌
abbrev pub ◌>>=◌ : {A B : Type 0} → Option A → (A → Option B) → Option B
(Some x) >>= f = f x
None >>= f = None

-- the label of a name that is one label, a dot and the zone
unfoldable pub label_below : ZoneRules → List ℕ → Option (List ℕ)
label_below zone name = do
  parts ← cut_last name
  if bytes_eq parts.1 zone.label && not (has_dot parts.0) then Some parts.0 else None

-- there is such a label, and it isn't reserved
abbrev pub allows : ZoneRules → Option (List ℕ) → Bool
allows zone (Some label) = not (is_reserved zone label)
allows zone None = false

-- a domain name of the zone
unfoldable pub keeps_domain : ZoneRules → List ℕ → Bool
keeps_domain zone name = allows zone (label_below zone name)

-- the label of a host's superordinate domain (RFC 5732, 1): the last but one of at least three, where the last is the zone's
unfoldable pub superordinate_label : ZoneRules → List ℕ → Option (List ℕ)
superordinate_label zone host = do
  upper ← cut_last host
  lower ← cut_last upper.0
  if bytes_eq upper.1 zone.label then Some lower.1 else None

abbrev pub domain_at : ZoneRules → List ℕ → List ℕ
domain_at zone label = label ++ 46 ∷ zone.label

-- the superordinate domain: the last two labels of a host in the zone, and none of another host
unfoldable pub superordinate_of : ZoneRules → List ℕ → Option (List ℕ)
superordinate_of zone host = option_map (domain_at zone) (superordinate_label zone host)

-- the last two labels of a name of at least three: of a host in the zone, its superordinate domain
unfoldable pub last_two_of : List ℕ → Option (List ℕ)
last_two_of host = do
  upper ← cut_last host
  lower ← cut_last upper.0
  Some (lower.1 ++ 46 ∷ upper.1)

-- a host whose last label isn't the zone's is external; another has a superordinate domain that the zone keeps
abbrev pub keeps_by_last : ZoneRules → List ℕ → Option (List ℕ × List ℕ) → Bool
keeps_by_last zone host (Some parts) = not (bytes_eq parts.1 zone.label) || allows zone (superordinate_label zone host)
keeps_by_last zone host None = false

-- a host name of at least two labels
unfoldable pub keeps_host : ZoneRules → List ℕ → Bool
keeps_host zone host = keeps_by_last zone host (cut_last host)
