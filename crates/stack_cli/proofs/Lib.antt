mod WordNumbers
mod ManyWords
