-- What goes out to everyone agrees.
use Rattle.std.proofs.Common.{◌≡◌, ap, subst, sym, ◌∙◌}
use Rattle.isolation.specs.Public.{IsPublic, public_part}
use Rattle.model.specs.{Lapse.lapsed, Registry.Registry}
use Rattle.policy.specs.Rules.{PolicyRules}
use Rattle.rdap.proofs.AnswerLemmas.{one_answer}
use Rattle.rdap.specs.Answering.{Faces, IsAnswer}
use Rattle.registry.specs.Faces.{ArePublic}
use Rattle.registry.proofs.PublicLemmas.{look-ups-are-public}
use Rattle.server.specs.{ZoneExport.zone_data_text, Http.faces_at, Public.{PublicPartsLookSame, PublicTextsAgree}}

pub public_texts : PublicTextsAgree
public_texts p moment one other same = (
  λ head answer second first then. one_answer p (faces_at p moment other) head answer second (subst (λ (faces : Faces). IsAnswer p faces head answer) same.faces first) then,
  ap (zone_data_text p) same.zone,
)

same-found : {X : Type 0} (p : PolicyRules) (find : Registry → X) (s t : Registry) → IsPublic p find
    → public_part p s ≡ public_part p t → find s ≡ find t
same-found p find s t is one = is.1 s ∙ ap is.0 one ∙ sym (is.1 t)

pub public_parts : PublicPartsLookSame
public_parts p moment one other same =
    let s : Registry = lapsed p moment one in
    let t : Registry = lapsed p moment other in
    let all : ArePublic p = look-ups-are-public p in
    record {
      faces = λ i. record {
        domain = λ name. same-found p _ s t (all.domain name) same i;
        host = λ name. same-found p _ s t (all.host name) same i;
        contact = λ name. same-found p _ s t (all.contact name) same i;
      };
      zone = same-found p _ s t all.zone same;
    }
