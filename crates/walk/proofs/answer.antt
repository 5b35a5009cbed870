mod Finished
