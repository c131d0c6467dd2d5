-- How an order ends whose answer isn't printed whole.
use Rattle.std.proofs.Common.{◌≡◌, ◌++◌, ◌∙◌, ℕ, Option, Some, None, List, inr, ap, sym, length, le_refl, codes}
use Rattle.std.specs.Io.KnownBytes.{Appends, Keeps}
use Rattle.eppreplies.specs.Answer.{answer_text}
use Rattle.policy.specs.Rules.{PolicyRules}
use Rattle.protocol.specs.declared.{code.Code.Code, order.OperatorRequest.OperatorRequest}
use Rattle.script.specs.{Deposits.{EndsUnprinted, IsAnsweredBy, IsOfMachine, PrintsBeginning}, declared.exit.Exit.Exit}
use Rattle.script.specs.declared.exit.Exit.TheVariants as exits
use Rattle.books.specs.Book.{BookState}
use Rattle.streams.specs.Moves.{AppendsBeginning}
use lib.Seq.{take_all}

module _ (p : PolicyRules) (request : OperatorRequest) (moment : ℕ) (code : Code) (lapsed : Option ℕ) (old new : BookState) (before after : Option (List ℕ)) where
  prints : IsAnsweredBy p request moment code lapsed old new → AppendsBeginning before after (answer_text code lapsed ++ codes "\n") → PrintsBeginning p request moment old new before after
  unfolding PrintsBeginning
  prints by began = (code, lapsed, by, began)

  -- after a fault of the output, or of memory
  pub machine_end : (exit : Exit) → IsOfMachine exit → IsAnsweredBy p request moment code lapsed old new → AppendsBeginning before after (answer_text code lapsed ++ codes "\n")
      → EndsUnprinted p request moment old new before after exit
  machine_end exits.File is by began = prints by began
  machine_end exits.Memory is by began = inr (prints by began)
  machine_end exits.Done is by began = absurd is
  machine_end exits.Refused is by began = absurd is
  machine_end exits.Usage is by began = absurd is
  machine_end (exits.Policy fault) is by began = absurd is
  machine_end (exits.Open fault) is by began = absurd is
  machine_end (exits.Registry fault) is by began = absurd is
  machine_end exits.Network is by began = absurd is
  machine_end (exits.Script n) is by began = absurd is

-- a text that was written whole begins itself
pub whole_begun : (a b c : Option (List ℕ)) (bytes text : List ℕ) → Appends a b bytes → bytes ≡ text → Keeps b c → AppendsBeginning a c text
whole_begun None b c bytes text wrote same kept = (0, tt)
whole_begun (Some xs) None c bytes text wrote same kept = absurd wrote
whole_begun (Some xs) (Some ys) None bytes text wrote same kept = absurd kept
whole_begun (Some xs) (Some ys) (Some zs) bytes text wrote same kept =
    (length text, kept ∙ wrote ∙ ap (λ (l : List ℕ). xs ++ l) (same ∙ sym (take_all (length text) text (le_refl (length text)))))
