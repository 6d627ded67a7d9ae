-- The types of the values that C keeps, as the logic describes them.
use Rattle.std.specs.Borrow.{RattleType, i64, u8}
use Rattle.ecow_list.specs.contracts.vec.EcoVec as list
use Rattle.ecow_bytes.specs.contracts.bytes.SmallBytes as bytes
use Rattle.ecow_string.specs.contracts.string.SmallText as text
use Rattle.ecow_nested.specs.contracts.value.Value as value
use denote.Param.{number}

abbrev pub list_row : RattleType
list_row = list.the_row i64

abbrev pub array_row : RattleType
array_row = list.the_row u8

abbrev pub bytes_row : RattleType
bytes_row = bytes.the_row (number 15)

abbrev pub text_row : RattleType
text_row = text.the_row (number 15)

abbrev pub texts_row : RattleType
texts_row = list.the_row text_row

abbrev pub value_row : RattleType
value_row = value.the_row
