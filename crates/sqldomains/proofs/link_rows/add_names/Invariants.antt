use Rattle.std.proofs.Common.{take}
use Rattle.sqldomains.proofs.Words.{AreNamesAdded, HasChanged}
use Rattle.sqldomains.proofs.link_rows.add_names.Given as goal

-- those so far were added
abbrev pub invariant-loop-name : goal.invariant-loop-name
invariant-loop-name g l = HasChanged (AreNamesAdded l.domain.id l.domain.due l.role (take l.name-index l.names)) l.fn.store l.store
