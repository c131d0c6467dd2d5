-- What a member of a reply says.
use Rattle.std.specs.Prelude.{Option, Some, None, option_map, map}
use Rattle.serde_json.specs.Data.{Data, string}
use Rattle.serde_json.specs.View.{view}
use Rattle.objects.specs.StatusTexts.{status_text}
use Rattle.jsonobjects.specs.declared.item.Item.{Item}
use Rattle.jsonobjects.specs.declared.item.Item.TheVariants.{Word, Text, MaybeText, Texts, Statuses, Time, MaybeTime, Given, Absent}
use Rattle.jsonobjects.specs.Members.{texts_value, moment_value}

abbrev pub item_value : Item → Option Data
item_value (Word word) = Some (string word.now)
item_value (Text text) = Some (string text.now)
item_value (MaybeText text) = option_map string text.now
item_value (Texts texts) = Some (texts_value texts.now)
item_value (Statuses statuses) = Some (texts_value (map status_text statuses.now))
item_value (Time moment) = Some (moment_value moment)
item_value (MaybeTime moment) = option_map moment_value moment
item_value (Given value) = Some (view value)
item_value Absent = None
