-- The word and the number of each cause for which a script is refused.
use Rattle.std.specs.Prelude.{ℕ, List, codes}
use Rattle.script_words.specs.declared.fault.Cause.{Cause}
use Rattle.script_words.specs.declared.fault.Cause.TheVariants.{NotText, BadHeader, UnknownWord, BadNumber, BadName, Repeated, UnknownName, BadHex, BadGeometry, TooMany, BadPair, BadSwitch}

abbrev pub cause_text : Cause → List ℕ
cause_text NotText = codes "nottext"
cause_text BadHeader = codes "badheader"
cause_text UnknownWord = codes "unknownword"
cause_text BadNumber = codes "badnumber"
cause_text BadName = codes "badname"
cause_text Repeated = codes "repeated"
cause_text UnknownName = codes "unknownname"
cause_text BadHex = codes "badhex"
cause_text BadGeometry = codes "badgeometry"
cause_text TooMany = codes "toomany"
cause_text BadPair = codes "badpair"
cause_text BadSwitch = codes "badswitch"

-- No cause has the number 11.
abbrev pub cause_number : Cause → ℕ
cause_number NotText = 1
cause_number BadHeader = 2
cause_number UnknownWord = 3
cause_number BadNumber = 4
cause_number BadName = 5
cause_number Repeated = 6
cause_number UnknownName = 7
cause_number BadHex = 8
cause_number BadGeometry = 9
cause_number TooMany = 10
cause_number BadPair = 12
cause_number BadSwitch = 13
