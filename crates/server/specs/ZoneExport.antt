-- A zone as a registry hands it over.
use Rattle.std.specs.Prelude.{ℕ, ◌%◌, List, [], Option}
use Rattle.std.specs.Io.KnownBytes.{Appends}
use Rattle.model.specs.Lapse.{lapsed}
use Rattle.model.specs.Registry.{Registry}
use Rattle.model.specs.Zone.{zone_data}
use Rattle.objects.specs.declared.zone.ZoneData.{ZoneData}
use Rattle.policy.specs.Rules.{PolicyRules}
use Rattle.zonefile.specs.ZoneText.{StopsWithin, zone_text}
use Rattle.server.specs.declared.zone.ZoneExportFault.{ZoneExportFault}
use Rattle.server.specs.declared.zone.ZoneExportFault.TheVariants as faults

-- the serial number is the clock's seconds, as far as it has room for them (RFC 1035, 3.3.13; RFC
-- 1982, 3)
abbrev pub serial_of : ℕ → ℕ
serial_of clock = clock % 0x1_0000_0000

-- the text of the zone of this data
abbrev pub zone_data_text : PolicyRules → ZoneData → List ℕ
zone_data_text p zone = zone_text p (serial_of zone.moment) zone

-- at a moment, which is the clock where it comes before
abbrev pub zone_at : PolicyRules → ℕ → Registry → List ℕ
zone_at p moment s = zone_data_text p (zone_data p.zone (lapsed p moment s))

-- what went out of a zone before a fault: nothing if the registry gave up
abbrev pub StopsAs : ZoneExportFault → Option (List ℕ) → Option (List ℕ) → List ℕ → Type 0
StopsAs (faults.Registry fault) old new text = Appends old new []
StopsAs (faults.Zone fault) old new text = StopsWithin fault old new text
