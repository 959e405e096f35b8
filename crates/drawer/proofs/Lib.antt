-- Laws of the drawer's starts, loops and answers.
pub mod Starts
pub mod Answers
pub mod Due
pub mod Loops
