-- What the writes of a text's parts join to.
use Rattle.std.proofs.Common.{◌≡◌, ℕ, Option, List, [], ◌∷◌, ◌++◌, refl, subst, sym, ◌∙◌, append_assoc}
use Rattle.std.proofs.{KnownBytes.{Appends-trans, Appends-nil}, lemmas.List.append-nil}
use Rattle.std.specs.{Io.KnownBytes.Appends, List.flat_map}
use Rattle.objects.specs.declared.zone.ZoneData.{ZoneData}
use Rattle.policy.specs.Rules.{PolicyRules}
use Rattle.streams.proofs.MoveLemmas.{began, less_of_back, less_of_front, went_on}
use Rattle.streams.specs.Moves.{AppendsBeginning, AppendsLess}
use Rattle.zonefile.specs.{Lines.soa_line, declared.fault.ZoneFault.ZoneFault}
use Rattle.zonefile.specs.ZoneText.{StopsWithin, delegation_text, glue_text, zone_text}
use Rattle.zonefile.specs.declared.fault.ZoneFault.TheVariants as faults

-- what was written, and the rest of the text
pub record Written (old now : Option (List ℕ)) (rest text : List ℕ) : Type 0 where
  pub front : List ℕ
  pub wrote : Appends old now front
  pub joins : front ++ rest ≡ text

-- one part more
pub more_written : (old now new : Option (List ℕ)) (part rest text : List ℕ) → Written old now (part ++ rest) text → Appends now new part → Written old new rest text
more_written old now new part rest text w more = record {
  front = w.front ++ part;
  wrote = Appends-trans old now new w.front part w.wrote more;
  joins = append_assoc w.front part rest ∙ w.joins;
}

-- what was written, and what went out of the next part before a fault, went out of the text
pub stopped_in : (fault : ZoneFault) (old now new : Option (List ℕ)) (part rest text : List ℕ) → Written old now (part ++ rest) text → StopsWithin fault now new part → StopsWithin fault old new text
stopped_in faults.Memory old now new part rest text w (n, more) =
    let a = went_on old now new w.front part n w.wrote more in
    subst (AppendsBeginning old new) (append_assoc w.front part rest ∙ w.joins) (began old new (w.front ++ part) rest a.0 a.1)
stopped_in faults.Write old now new part rest text w less =
    subst (AppendsLess old new) (append_assoc w.front part rest ∙ w.joins) (less_of_front old new (w.front ++ part) rest (less_of_back old now new w.front part w.wrote less))

-- all parts were written
pub finished : (old now : Option (List ℕ)) (text : List ℕ) → Written old now [] text → Appends old now text
finished old now text w = subst (Appends old now) (sym (append-nil w.front) ∙ w.joins) w.wrote

-- ---- parts that are made of the items of a list

module _ {X : Type 0} (f : X → List ℕ) (old now new : Option (List ℕ)) (items rest : List X) (item : X) (text : List ℕ) (next : items ≡ item ∷ rest) (w : Written old now (flat_map f items) text) where
  before : Written old now (f item ++ flat_map f rest) text
  before = subst (λ (xs : List X). Written old now (flat_map f xs) text) next w

  pub one_more : Appends now new (f item) → Written old new (flat_map f rest) text
  one_more more = more_written old now new (f item) (flat_map f rest) text before more

  pub stopped_at : (fault : ZoneFault) → StopsWithin fault now new (f item) → StopsWithin fault old new text
  stopped_at fault more = stopped_in fault old now new (f item) (flat_map f rest) text before more

-- ---- the parts of a zone

module _ (p : PolicyRules) (serial : ℕ) (zone : ZoneData) where
  abbrev pub text : List ℕ
  text = zone_text p serial zone

  abbrev pub delegations_part : List ℕ
  delegations_part = flat_map (delegation_text p.soa.ttl) zone.delegations

  abbrev pub glue_part : List ℕ
  glue_part = flat_map (glue_text p.soa.ttl) zone.glue

  parts : soa_line p.zone.label p.soa serial ++ (delegations_part ++ (glue_part ++ [])) ≡ text
  unfolding zone_text
  parts = refl

  nothing : (old : Option (List ℕ)) → Written old old (soa_line p.zone.label p.soa serial ++ (delegations_part ++ (glue_part ++ []))) text
  nothing old = record { front = []; wrote = Appends-nil old; joins = parts }

  pub soa_written : (old new : Option (List ℕ)) → Appends old new (soa_line p.zone.label p.soa serial) → Written old new (delegations_part ++ (glue_part ++ [])) text
  soa_written old new wrote = more_written old old new (soa_line p.zone.label p.soa serial) _ text (nothing old) wrote

  pub soa_begun : (fault : ZoneFault) (old new : Option (List ℕ)) → StopsWithin fault old new (soa_line p.zone.label p.soa serial) → StopsWithin fault old new text
  soa_begun fault old new began = stopped_in fault old old new (soa_line p.zone.label p.soa serial) _ text (nothing old) began

  -- the start of authority, and then the name servers
  pub delegations_written : (old now new : Option (List ℕ)) → Appends old now (soa_line p.zone.label p.soa serial) → Appends now new delegations_part → Written old new (glue_part ++ []) text
  delegations_written old now new soa wrote = more_written old now new delegations_part _ text (soa_written old now soa) wrote

  pub delegations_begun : (fault : ZoneFault) (old now new : Option (List ℕ)) → Appends old now (soa_line p.zone.label p.soa serial) → StopsWithin fault now new delegations_part → StopsWithin fault old new text
  delegations_begun fault old now new soa began = stopped_in fault old now new delegations_part _ text (soa_written old now soa) began

  pub all_written : (old now then new : Option (List ℕ)) → Appends old now (soa_line p.zone.label p.soa serial) → Appends now then delegations_part → Appends then new glue_part → Appends old new text
  all_written old now then new soa delegations wrote = finished old new text (more_written old then new glue_part [] text (delegations_written old now then soa delegations) wrote)

  pub glue_begun : (fault : ZoneFault) (old now then new : Option (List ℕ)) → Appends old now (soa_line p.zone.label p.soa serial) → Appends now then delegations_part → StopsWithin fault then new glue_part → StopsWithin fault old new text
  glue_begun fault old now then new soa delegations began = stopped_in fault old then new glue_part [] text (delegations_written old now then soa delegations) began
