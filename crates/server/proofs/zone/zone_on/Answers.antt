use Rattle.std.proofs.{Common.{◌≡◌, ℕ, true, ◌∙◌, subst}, KnownBytes.Appends-nil, lemmas.Result.err_from_is_err_and}
use Rattle.std.specs.Io.KnownBytes.{Appends}
use Rattle.model.specs.{Registry.Registry, Zone.zone_data}
use Rattle.objects.specs.declared.zone.ZoneData.{ZoneData}
use Rattle.policy.specs.Rules.{PolicyRules}
use Rattle.registry.specs.Faces.{LooksUp}
use Rattle.server.specs.ZoneExport.{zone_at, zone_data_text}
use Rattle.books.specs.Book.{BookState}
use Rattle.zonefile.specs.ZoneText.{StopsWithin}
use Rattle.server.proofs.PassingLemmas.{passes_by}
use Rattle.server.proofs.zone.zone_on.Goals as goal

-- the text of what was found is that of the zone at the moment
text_is : (lapses : ℕ → Registry → Registry) (p q : PolicyRules) (moment : ℕ) (zone : ZoneData) (old new : BookState) → q ≡ p → LooksUp p (zone_data p.zone) lapses moment zone old new → new.is_clean ≡ true
    → zone_data_text q zone ≡ zone_at p moment old.content.registry
text_is lapses p q moment zone old new same found clean = λ i. zone_data_text (same i) ((found clean).answer_is i)

pub returns-in_err-zone-clause-begun : goal.returns-in_err-zone-clause-begun
returns-in_err-zone-clause-begun g c =
    let gave = err_from_is_err_and c.from_residual.result c.from_residual.ensures.1 in
    rw (gave.1, gave.2) (λ clean. Appends-nil _)

pub returns-in_err-zone-clause-passes : goal.returns-in_err-zone-clause-passes
returns-in_err-zone-clause-passes g c = passes_by _ _ _ _ _ _ _ _ _ c.zone_data.ensures.step c.zone_data.ensures.keeps c.zone_data.ensures.fault

pub returns-in_err-write_data-clause-begun : goal.returns-in_err-write_data-clause-begun
returns-in_err-write_data-clause-begun g c =
    let gave = err_from_is_err_and c.from_residual-in_err-write_data.result c.from_residual-in_err-write_data.ensures.1 in
    rw (gave.1, gave.2) (λ clean.
    subst (StopsWithin _ _ _) (text_is _ _ _ _ _ (g.B.Book.state c.args.registry.now.book) (g.B.Book.state c.zone_data.new.self.book)
    (c.policy.ensures ∙ c.zone_data.ensures.keeps.policy) c.in_ok-zone.ensures.step clean) c.in_err-write_data.ensures.begun)

pub returns-in_err-write_data-clause-passes : goal.returns-in_err-write_data-clause-passes
returns-in_err-write_data-clause-passes g c = passes_by _ _ _ _ _ _ _ _ _ c.zone_data.ensures.step c.zone_data.ensures.keeps c.zone_data.ensures.fault

pub returns-clause-written : goal.returns-clause-written
returns-clause-written g c = λ clean.
    subst (Appends _ _) (text_is _ _ _ _ _ (g.B.Book.state c.args.registry.now.book) (g.B.Book.state c.zone_data.new.self.book)
    (c.policy.ensures ∙ c.zone_data.ensures.keeps.policy) c.in_ok-zone.ensures.step clean) c.in_ok-write_data.ensures.written

pub returns-clause-passes : goal.returns-clause-passes
returns-clause-passes g c = passes_by _ _ _ _ _ _ _ _ _ c.zone_data.ensures.step c.zone_data.ensures.keeps c.zone_data.ensures.fault
