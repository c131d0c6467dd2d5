-- What is answered to a request's head (RFC 7480, 5): a function of the head, the policy and the faces.
use Rattle.std.specs.Prelude.{◌≡◌, ℕ, List, Option, Some, None, option_map, Result, Ok, Err, ◌⊎◌}
use Rattle.httparse.specs.Grammar.{RequestHead}
use Rattle.names.specs.declared.fault.NameFault.{NameFault}
use Rattle.names.specs.declared.fault.NameFault.TheVariants.{Memory, Syntax, Policy}
use Rattle.names.specs.Names.{domain_of, host_of}
use Rattle.objects.specs.declared.contact.ContactFace.{ContactFace}
use Rattle.objects.specs.declared.domain.DomainFace.{DomainFace}
use Rattle.objects.specs.declared.host.HostFace.{HostFace}
use Rattle.policy.specs.Rules.{PolicyRules}
use Rattle.rdap.specs.declared.wire.Outcome.{Outcome}
use Rattle.rdap.specs.declared.wire.Outcome.TheVariants.{Found, BadRequest, NotFound}
use Rattle.rdap.specs.declared.request.Request.{Request}
use Rattle.rdap.specs.declared.request.Request.TheVariants.{Domain, Nameserver, Entity, Help, Refused}
use Rattle.rdap.specs.Answers.{fixed_body_of, response}
use Rattle.rdap.specs.Bodies.{contact_text, domain_text, nameserver_text}
use Rattle.rdap.specs.Heads.{HasHead}
use Rattle.rdap.specs.Requests.{request_of}

-- the faces by canonical names, at one moment. Those of contacts show whether they're linked.
pub record Faces : Type 0 where
  pub domain : List ℕ → Option DomainFace
  pub host : List ℕ → Option HostFace
  pub contact : List ℕ → Option ContactFace

-- the answer that has no object
abbrev pub without_object : Outcome → List ℕ
without_object outcome = response outcome (fixed_body_of outcome)

-- the answer with the body of an object, if it is there
abbrev pub object_answer : Option (List ℕ) → List ℕ
object_answer None = without_object NotFound
object_answer (Some body) = response Found body

-- a name that breaks the rule of names is a bad request; one that the zone doesn't keep isn't there
abbrev pub name_fault_outcome : NameFault → Outcome
name_fault_outcome Syntax = BadRequest
name_fault_outcome Policy = NotFound
name_fault_outcome Memory = NotFound

abbrev pub domain_answer : PolicyRules → Faces → Result (List ℕ) NameFault → List ℕ
domain_answer p faces (Ok name) = object_answer (option_map (domain_text p name) (faces.domain name))
domain_answer p faces (Err fault) = without_object (name_fault_outcome fault)

abbrev pub nameserver_answer : Faces → Result (List ℕ) NameFault → List ℕ
nameserver_answer faces (Ok name) = object_answer (option_map (nameserver_text name) (faces.host name))
nameserver_answer faces (Err fault) = without_object (name_fault_outcome fault)

abbrev pub request_answer : PolicyRules → Faces → Request → List ℕ
request_answer p faces (Domain name) = domain_answer p faces (domain_of p.zone name)
request_answer p faces (Nameserver name) = nameserver_answer faces (host_of p.zone name)
request_answer p faces (Entity handle) = object_answer (option_map contact_text (faces.contact handle))
request_answer p faces Help = without_object Found
request_answer p faces (Refused outcome) = without_object outcome

-- the bytes answer the head that the bytes of a connection begin with, or are a bad request's where
-- they begin with none
abbrev pub IsAnswer : PolicyRules → Faces → List ℕ → List ℕ → Type 0
IsAnswer p faces head bytes =
    ((h : RequestHead) × HasHead head h × (bytes ≡ request_answer p faces (request_of h.method h.target)))
    ⊎ (((h : RequestHead) → ¬ (HasHead head h)) × (bytes ≡ without_object BadRequest))

-- equal heads, policies and faces have equal answers: nothing else can be in one
abbrev pub AnswersAgree : Type 0
AnswersAgree =
    (p : PolicyRules) (faces : Faces) (head one other : List ℕ)
    → IsAnswer p faces head one → IsAnswer p faces head other → one ≡ other

-- what an answer leaves of its source: nothing was looked up, or one look-up was made
abbrev pub MayLeave : {S : Type 0} → (S → S → Type 0) → S → S → Type 0
MayLeave leaves old new = (new ≡ old) ⊎ leaves old new
