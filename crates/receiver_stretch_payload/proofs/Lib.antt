-- Payload bytes, one by one and many at once.
pub mod InPayload
