-- The definitions that the contracts of `text` cite.
-- Layout has the two forms of a file. File says what a good file is, Answer what reading gives, Reading the same as a function, Printed what is written.
-- Form and Steps are for the functions below `read`.
pub mod Ascii
pub mod Decimal
pub mod Line
pub mod Layout
pub mod File
pub mod Lent
pub mod Form
pub mod Steps
pub mod Answer
pub mod Reading
pub mod Placed
pub mod Printed
pub mod Prints
pub mod Writer
pub mod Samples
