-- What a domain is to name is there: the lists of its links, in order or amended, name what commands
-- and the domain named before.
use Rattle.std.proofs.Common.{◌≡◌, ⊎_elim, ℕ, Bool, true, false, not, ◌||◌, List, [], ◌∷◌, ◌++◌, map, Option, Some, None, refl, sym, ap, ◌∙◌}
use Rattle.std.proofs.{Math.Bool.{or-false, or_assoc, or_comm}, Common.{◌&&◌, filter, fold}, lemmas.List.map-id}
use Rattle.std.proofs.lemmas.Bool.{and_parts, not-false, or_cases, or_left, or_parts, or_right}
use Rattle.decisions.proofs.Words.{amended, bytes_decides, bytes_eq, DomainUpdate, has_name, holds_of, Links, list_any, name_of, names_contact, RequestedName}
use Rattle.decisions.proofs.Words.{add, any-add, any-filter_same, names_host, nat_cmp, NewDomain, precedes, slice_cmp}
use Rattle.decisions.proofs.Words.{CreateDomain, is_among, itself, kept, list_any-append, references_fail, UpdateDomain}
use Rattle.objects.specs.Links.{in_order}
use Rattle.decisions.specs.Decisions.{new_links, or_old, updated_links}

-- neither part holds of what doesn't
pub or-first : (a b : Bool) → (a || b) ≡ false → a ≡ false
or-first a b e = (or_parts a b e).0

pub or-second : (a b : Bool) → (a || b) ≡ false → b ≡ false
or-second a b e = (or_parts a b e).1

-- ---- lists of names that are filtered, or put in order

-- of the names that pass, those that a list has
pub has_name-filter : (test : List ℕ → Bool) (names : List (List ℕ)) (name : List ℕ) → has_name (filter test names) name ≡ (test name && has_name names name)
has_name-filter test names name = any-filter_same (λ other. bytes_eq other name) test (test name) (λ other same. ap test ((bytes_decides other name).0 same)) names

any-sorted : {A : Type 0} (le : A → A → Bool) (test : A → Bool) (xs bag : List A) → list_any test (fold (λ bag item. add le item bag) bag xs) ≡ (list_any test xs || list_any test bag)
any-sorted le test [] bag = refl
any-sorted le test (x ∷ xs) bag =
    any-sorted le test xs (add le x bag) ∙ ap (λ (b : Bool). list_any test xs || b) (any-add le test x bag)
    ∙ sym (or_assoc (list_any test xs) (test x) (list_any test bag))
    ∙ ap (λ (b : Bool). b || list_any test bag) (or_comm (list_any test xs) (test x))

-- names in order are the same names
pub has_name-in_order : (names : List (List ℕ)) (name : List ℕ) → has_name (in_order names) name ≡ has_name names name
has_name-in_order names name = any-sorted (precedes (slice_cmp nat_cmp)) (λ other. bytes_eq other name) names [] ∙ or-false (has_name names name)

module _ (there : List ℕ → Bool) where
  -- what passes for a name passes for the same name
  same-there : (given name : List ℕ) → bytes_eq given name ≡ true → there given ≡ true → there name ≡ true
  same-there given name same passes = ap there (sym ((bytes_decides given name).0 same)) ∙ passes

  -- of a list of which each passes, what is named passes
  listed : {A : Type 0} (text : A → List ℕ) (items : List A) (name : List ℕ) → list_any (λ item. not (there (text item))) items ≡ false → has_name (map text items) name ≡ true → there name ≡ true
  listed text [] name none e = absurd cc
  listed text (x ∷ xs) name none e =
      let parts = or_parts (not (there (text x))) (list_any (λ item. not (there (text item))) xs) none in
      ⊎_elim (λ first. same-there (text x) name first (not-false _ parts.0)) (λ rest. listed text xs name parts.1 rest) (or_cases (bytes_eq (text x) name) (has_name (map text xs) name) e)

  -- what an amended list names was named before and passes, or is added and passes
  amended-there : {A : Type 0} (text : A → List ℕ) (old : List (List ℕ)) (removed added : List A) (name : List ℕ) → (has_name old name ≡ true → there name ≡ true) → list_any (λ item. not (there (text item))) added ≡ false
      → has_name (amended text old removed added) name ≡ true → there name ≡ true
  amended-there text old removed added name before none e =
      ⊎_elim (λ left. before (and_parts (not (is_among text removed name)) (has_name old name) (sym (has_name-filter (λ n. not (is_among text removed n)) old name) ∙ left)).1) (λ new. listed text added name none new)
      (or_cases (has_name (kept text old removed) name) (has_name (map text added) name)
      (sym (list_any-append (λ other. bytes_eq other name) (kept text old removed) (map text added)) ∙ sym (has_name-in_order (kept text old removed ++ map text added) name) ∙ e))

  ordered-there : {A : Type 0} (text : A → List ℕ) (items : List A) (name : List ℕ) → list_any (λ item. not (there (text item))) items ≡ false → has_name (in_order (map text items)) name ≡ true → there name ≡ true
  ordered-there text items name none e = listed text items name none (sym (has_name-in_order (map text items) name) ∙ e)

-- ---- links, where a command's tests of what is to be named don't fail

module _ (contact host : List ℕ → Bool) where
  -- the registrant passes, and each contact and host that is listed
  abbrev AllPass : Bool → List (List ℕ) → List (List ℕ) → List RequestedName → Type 0
  AllPass registrant admin tech hosts = (registrant ≡ false) × ((list_any (λ name. not (contact name)) admin ≡ false) × ((list_any (λ name. not (contact name)) tech ≡ false) × (list_any (λ name. not (host (name_of name))) hosts ≡ false)))

  all-pass : (registrant : Bool) (admin tech : List (List ℕ)) (hosts : List RequestedName)
      → (registrant || (list_any (λ name. not (contact name)) admin || (list_any (λ name. not (contact name)) tech || list_any (λ name. not (host (name_of name))) hosts))) ≡ false → AllPass registrant admin tech hosts
  all-pass registrant admin tech hosts none = search (or-first, or-second)

  module _ (new : NewDomain) (passes : references_fail contact host (CreateDomain new) ≡ false) where
    pass : AllPass (not (contact new.registrant)) new.admin new.tech new.hosts
    pass = all-pass (not (contact new.registrant)) new.admin new.tech new.hosts passes

    plain-there : (names : List (List ℕ)) (name : List ℕ) → list_any (λ other. not (contact other)) names ≡ false → has_name (in_order names) name ≡ true → contact name ≡ true
    plain-there names name none e = ordered-there contact itself names name none (ap (λ (l : List (List ℕ)). has_name (in_order l) name) (map-id names) ∙ e)

    pub new-contacts : (name : List ℕ) → names_contact name (new_links new) ≡ true → contact name ≡ true
    new-contacts name e =
        ⊎_elim (λ first. same-there contact new.registrant name first (not-false _ pass.0))
        (λ rest. ⊎_elim (λ admin. plain-there new.admin name pass.1.0 admin) (λ tech. plain-there new.tech name pass.1.1.0 tech) (or_cases (has_name (in_order new.admin) name) (has_name (in_order new.tech) name) rest))
        (or_cases (bytes_eq new.registrant name) _ e)

    pub new-hosts : (name : List ℕ) → names_host name (new_links new) ≡ true → host name ≡ true
    new-hosts name e = ordered-there host name_of new.hosts name pass.1.1.1 e

  module _ (u : DomainUpdate) (links : Links) (passes : references_fail contact host (UpdateDomain u) ≡ false) where
    given-pass : AllPass (holds_of (λ name. not (contact name)) u.registrant) u.add.admin u.add.tech u.add.hosts
    given-pass = all-pass (holds_of (λ name. not (contact name)) u.registrant) u.add.admin u.add.tech u.add.hosts passes

    -- the registrant that is given, or the one before
    registrant-there : (given : Option (List ℕ)) (name : List ℕ) → holds_of (λ name. not (contact name)) given ≡ false → (bytes_eq links.registrant name ≡ true → contact name ≡ true)
        → bytes_eq (or_old given links.registrant) name ≡ true → contact name ≡ true
    registrant-there None name none before e = before e
    registrant-there (Some given) name none before e = same-there contact given name e (not-false _ none)

    pub updated-contacts : ((name : List ℕ) → names_contact name links ≡ true → contact name ≡ true) → (name : List ℕ) → names_contact name (updated_links u links) ≡ true → contact name ≡ true
    updated-contacts before name e =
        let admin : Bool = has_name links.admin name in
        let tech : Bool = has_name links.tech name in
        ⊎_elim (λ first. registrant-there u.registrant name given-pass.0 (λ was. before name (or_left (bytes_eq links.registrant name) (admin || tech) was)) first)
        (λ rest. ⊎_elim
        (λ in-admin. amended-there contact itself links.admin u.rem.admin u.add.admin name (λ was. before name (or_right (bytes_eq links.registrant name) (admin || tech) (or_left admin tech was))) given-pass.1.0 in-admin)
        (λ in-tech. amended-there contact itself links.tech u.rem.tech u.add.tech name (λ was. before name (or_right (bytes_eq links.registrant name) (admin || tech) (or_right admin tech was))) given-pass.1.1.0 in-tech)
        (or_cases (has_name (updated_links u links).admin name) (has_name (updated_links u links).tech name) rest))
        (or_cases (bytes_eq (updated_links u links).registrant name) _ e)

    pub updated-hosts : ((name : List ℕ) → names_host name links ≡ true → host name ≡ true) → (name : List ℕ) → names_host name (updated_links u links) ≡ true → host name ≡ true
    updated-hosts before name e = amended-there host name_of links.hosts u.rem.hosts u.add.hosts name (before name) given-pass.1.1.1 e
