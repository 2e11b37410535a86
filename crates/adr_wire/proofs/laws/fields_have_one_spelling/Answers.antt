use Rattle.adr_wire.proofs.FieldLaws.{u8_spelled, u16_spelled, u32_spelled, u64_spelled, i64_spelled, id_spelled, flag_spelled, usn_spelled, usn0_spelled, version_spelled, text_spelled, octets_spelled, magic_spelled, format_version_spelled}
use Rattle.adr_wire.proofs.laws.fields_have_one_spelling.Goals as goal

pub returns-clause-u8 : goal.returns-clause-u8
returns-clause-u8 c = u8_spelled

pub returns-clause-u16 : goal.returns-clause-u16
returns-clause-u16 c = u16_spelled

pub returns-clause-u32 : goal.returns-clause-u32
returns-clause-u32 c = u32_spelled

pub returns-clause-u64 : goal.returns-clause-u64
returns-clause-u64 c = u64_spelled

pub returns-clause-i64 : goal.returns-clause-i64
returns-clause-i64 c = i64_spelled

pub returns-clause-id : goal.returns-clause-id
returns-clause-id c = id_spelled

pub returns-clause-flag : goal.returns-clause-flag
returns-clause-flag c = flag_spelled

pub returns-clause-usn : goal.returns-clause-usn
returns-clause-usn c = usn_spelled

pub returns-clause-usn0 : goal.returns-clause-usn0
returns-clause-usn0 c = usn0_spelled

pub returns-clause-version : goal.returns-clause-version
returns-clause-version c = version_spelled

pub returns-clause-text : goal.returns-clause-text
returns-clause-text c = text_spelled

pub returns-clause-octets : goal.returns-clause-octets
returns-clause-octets c = octets_spelled

pub returns-clause-magic : goal.returns-clause-magic
returns-clause-magic c = magic_spelled

pub returns-clause-format_version : goal.returns-clause-format_version
returns-clause-format_version c = format_version_spelled
