-- The laws of the receiver's definition: Laws is what other crates may rest on; the others in reading order, and last the theorem.
pub mod Laws
-- the marks
pub mod MarkLaws
-- a machine over any rules, and the theory of framing
pub mod Machine
pub mod Opening
pub mod Steps
pub mod WayBack
pub mod Completing
pub mod History
pub mod Altered
-- texts altered by a list
pub mod ListsOfAlterations
-- 01's receiver is such a machine, and what it takes is what 01 calls undamaged
pub mod Instance
pub mod BlockRules
pub mod WholeParts
-- possible states, and lists of calls
pub mod Waiting
pub mod Possible
pub mod Answers
pub mod CallLists
pub mod DigitRows
-- complete comes at a part's last byte and not before; how a part is answered
pub mod NotBefore
pub mod PartAnswers
pub mod Unmarked
-- demand 3
pub mod Theorem
-- a text under way
pub mod UnderWay
-- rows 1, 2, 11, 13, 15 and 51 exactly when; sample traffic
pub mod Rows
pub mod PictureRows
pub mod Samples
