-- What other crates may rest on, beside the crate text_laws. Everything else in proofs/ is this crate's own affair.

-- The exclusive or over joined lists
pub use Rattle.text.proofs.CheckByte.{xor_all_append}
-- The rule of the radars, read by place
pub use Rattle.text.proofs.Radars.{radars_by_place}
