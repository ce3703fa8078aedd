-- What other crates may rest on. Everything else in proofs/ is this crate's own affair.

-- two grids laid over each other: how long, byte by byte, and as 01 says it, mesh by mesh the higher of the two levels
pub use Rattle.service_overlay_spec.proofs.HigherLaws.{length_higher, higher_at, mesh_higher}
-- Request 110: order and grouping make no difference, whatever the tree of calls; which calls are refused where a grid cannot be laid
pub use Rattle.service_overlay_spec.proofs.Theorem.{overlay_claim}
