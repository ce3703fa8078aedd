-- From the blocks that are written to demand 2. Assumes nothing.
pub mod RulesKept
pub mod DataBlocks
pub mod ReadsBack
pub mod Taking
pub mod Places
pub mod WrittenAgain
pub mod HeldPart
pub mod Rewriting
pub mod BitsKept
pub mod Relaying
pub mod Theorem
