-- Lists of calls of the code, by the two contracts alone. Assumes nothing.
pub mod CodeCalls
