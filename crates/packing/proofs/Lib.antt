-- Laws of packed results: their fields can be taken out again; and of results by number: they say what the results themselves say.
pub mod Unpacked
pub mod UnpackedWalks
pub mod ByNumber
