-- The proofs, in the order of the argument: rewriting, a tree in the middle, the machine; then limits, texts and answers. Assumes nothing.

-- Rewriting splits; trees and their cost; the bound; sorted terms, of which trees and rewriting agree.
pub mod Splitting
pub mod Breaking
pub mod Trees
pub mod Sorts
pub mod Agreement
pub mod Falling
pub mod Progress
-- Courses of the machine without limits; the code that it runs on; trees to machine; machine to trees; heights.
pub mod Courses
pub mod Holding
pub mod ToMachine
pub mod FromMachine
pub mod Heights
-- The limits; an accepted text is sorted; both ends joined; each ending of a run; which answers come from a run; the counterexample; the statements.
pub mod Limits
pub mod Acceptance
pub mod Targets
pub mod Paces
pub mod Wholes
pub mod Endings
pub mod Refusals
pub mod Early
pub mod Headlines
-- Frauds.
pub mod Frauds
