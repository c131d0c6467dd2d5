-- What time makes of a registry up to a moment hangs on the prices, and on the lengths of periods that
-- begin by then, alone.
use Rattle.std.proofs.Common.{◌≡◌, ◌≤◌, ℕ, zero, suc, max, Bool, true, false, cond, nat_lt, List, [], ◌∷◌, ◌++◌, Option, Some, None, refl, sym, ap, ◌∙◌, arith}
use Rattle.std.proofs.lemmas.Bool.Decides.{nat_tests}
use Rattle.std.specs.Prelude.{fold}
use Rattle.accounts.specs.{declared.{entries.Posting.Posting, message.LapseNotice.TheVariants.Purged}, Entries.posted}
use Rattle.basis.specs.Sweeps.{kept}
use Rattle.calendar.specs.Moment.{plus_days}
use Rattle.lifecycle.specs.declared.lapsed.Lapsed.{Lapsed}
use Rattle.lifecycle.specs.Lapse.{completion, due_by, gained, lapse_by, lapse_contact, leaves, lived, moved, purged, raised, renewals, domain_notice, turn}
use Rattle.lifecycle.specs.{Periods.end, Phases.{purge_at, redemption_end}, Turns.turns}
use Rattle.objects.specs.declared.{domain.{Deletion.Deletion, Domain.Domain}, transfer.Transfer.Transfer}
use Rattle.policy.specs.{declared.{days.Period.Period, prices.Prices.Prices}, Rules.{PolicyRules, days_of}}
use Rattle.policy.specs.declared.days.Period.TheVariants as periods
use Rattle.model.specs.{Lapse.{accounts_at, contacts_at, domains_at, lapse as lapse_registry, postings}, Registry.Registry}
use Rattle.model.proofs.SweepLemmas.{registry}

-- a period that begins by a moment has one length under both
abbrev pub AgreeUntil : ℕ → PolicyRules → PolicyRules → Type 0
AgreeUntil until p q = (period : Period) (m : ℕ) → m ≤ until → days_of period m p ≡ days_of period m q

module _ (until : ℕ) (p q : PolicyRules) (agree : AgreeUntil until p q) where
  same-end : (period : Period) (m : ℕ) → m ≤ until → end period m p ≡ end period m q
  same-end period m le = ap (plus_days m) (agree period m le)

  -- where the purge is by then, all that it hangs on has begun by then
  purge-by : (t : ℕ) (x : Deletion) → t ≤ until → purge_at p x ≤ t → purge_at p x ≡ purge_at q x
  purge-by t x le by-then = go x.restore_requested by-then
    where
      go : (o : Option ℕ) → purge_at p (record x { restore_requested = o }) ≤ t → purge_at p (record x { restore_requested = o }) ≡ purge_at q (record x { restore_requested = o })
      go None early =
          let b : ℕ = redemption_end p x in
          let begun : b ≤ until = omega (arith, early, le) in
          let first : x.deleted ≤ until = omega (arith, begun) in
          same-end periods.PendingDelete b begun ∙ ap (λ m. end periods.PendingDelete m q) (same-end periods.Redemption x.deleted first)
      go (Some m) early =
          let b : ℕ = max (redemption_end p x) (end periods.Restore m p) in
          let begun : b ≤ until = omega (arith, early, le) in
          let first : x.deleted ≤ until = omega (arith, begun) in
          let asked : m ≤ until = omega (arith, begun) in
          same-end periods.PendingDelete b begun
          ∙ (λ i. end periods.PendingDelete (max (same-end periods.Redemption x.deleted first i) (same-end periods.Restore m asked i)) q)

module _ (until : ℕ) (p q : PolicyRules) (agree : AgreeUntil until p q) (prices : p.prices ≡ q.prices) where
  back : AgreeUntil until q p
  back period m le = sym (agree period m le)

  abbrev turn_for : Prices → Domain → ℕ → List Posting
  turn_for prices d k = turn (record p { prices = prices }) d k

  same-renewals : (d : Domain) (n : ℕ) → renewals p d n ≡ renewals q d n
  unfolding renewals
  same-renewals d zero = refl
  same-renewals d (suc n) = λ i. same-renewals d n i ++ turn_for (prices i) d n

  same-life : (t : ℕ) (o : Option Transfer) (d : Domain) → lived p t o d ≡ lived q t o d
  same-life t None d = ap (λ (es : List Posting). leaves (raised (turns d t) d) es) (same-renewals d (turns d t))
  same-life t (Some x) d =
      let before : Domain = raised (turns d x.ac_date) d in
      let after : Domain = moved x before in
      λ i. leaves (raised (turns after t) after) (same-renewals d (turns d x.ac_date) i ++ (completion x (gained before x.ac_date) before ++ same-renewals after (turns after t) i))

  -- a deleted domain is purged by then under both or neither, and at one moment
  same-purge : (t : ℕ) (x : Deletion) (d : Domain) → t ≤ until → lapse_by p t (Some x) d ≡ lapse_by q t (Some x) d
  same-purge t x d le = go (nat_lt t (purge_at p x)) (nat_lt t (purge_at q x)) refl refl
    where
      told : ℕ → Lapsed Domain
      told m = cond (nat_lt t m) (leaves d []) (record { object = None; postings = domain_notice d.sponsor m Purged d ∷ [] })

      at-one : purge_at p x ≡ purge_at q x → lapse_by p t (Some x) d ≡ lapse_by q t (Some x) d
      at-one same = ap told same

      go : (b c : Bool) → nat_lt t (purge_at p x) ≡ b → nat_lt t (purge_at q x) ≡ c → lapse_by p t (Some x) d ≡ lapse_by q t (Some x) d
      go true true e f = ap (λ b. cond b (leaves d []) (purged p x d)) e ∙ sym (ap (λ b. cond b (leaves d []) (purged q x d)) f)
      go false c e f = at-one (purge-by until p q agree t x le (grind (arith, nat_tests, e)))
      go true false e f = at-one (sym (purge-by until q p back t x le (grind (arith, nat_tests, f))))

  same-by : (t : ℕ) (o : Option Deletion) (d : Domain) → t ≤ until → lapse_by p t o d ≡ lapse_by q t o d
  same-by t None d le = same-life t (due_by t d.transfer) d
  same-by t (Some x) d le = same-purge t x d le

  pub same-lapse : (t : ℕ) (s : Registry) → t ≤ until → lapse_registry p t s ≡ lapse_registry q t s
  unfolding contacts_at domains_at accounts_at
  same-lapse t s le = λ i. registry
      (contacts_at t s.contacts)
      s.hosts
      (kept (λ name d. (same-by t d.deletion d le i).object) s.domains)
      (fold posted s.accounts (postings (λ name. lapse_contact t) (λ name d. same-by t d.deletion d le i) s))
      t
